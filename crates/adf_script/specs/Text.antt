-- The text for each reply, and for the end.
use Rattle.std.specs.Prelude.{ℕ, ◌+◌, ◌/◌, ◌%◌, ◌^◌, ℤ, pos, negsuc, Bool, nat_lt, if◌then◌else◌, List, [], ◌∷◌, ◌++◌}
use Rattle.std.specs.Prelude.{take, flat_map, decimal, codes}
use Rattle.std.specs.Fmt.{signed_decimal}
use Rattle.std.specs.Ordering.{int_eq}
use Rattle.ados_model.specs.declared.answer.FileInfo.{FileInfo}
use Rattle.ados_model.specs.declared.answer.DiskInfo.{DiskInfo}
use Rattle.ados_model.specs.declared.answer.Answer.{Answer}
use Rattle.ados_model.specs.declared.answer.Body.{Body}
use Rattle.ados_model.specs.declared.answer.Body.TheVariants.{Empty, Buffer, Handle, Entry, Disk}

-- a space before a text
abbrev pub spaced : List ℕ → List ℕ
spaced text = 32 ∷ text

abbrev pub hex_digit : ℕ → ℕ
hex_digit n = if nat_lt n 10 then 48 + n else 87 + n

-- a byte as two lower-case hexadecimal digits
abbrev pub hex_byte : ℕ → List ℕ
hex_byte byte = hex_digit (byte / 16) ∷ hex_digit (byte % 16) ∷ []

-- a 32-bit number as eight hexadecimal digits
abbrev pub hex_long : ℕ → List ℕ
hex_long n = hex_byte (n / 2 ^ 24) ++ hex_byte (n / 2 ^ 16 % 256) ++ hex_byte (n / 2 ^ 8 % 256) ++ hex_byte (n % 256)

-- the action is READ, 82
abbrev pub is_read : ℤ → Bool
is_read action = int_eq action (pos 82)

-- the number of bytes that a READ returned; 0 for another action or a negative result
abbrev pub count_read : ℤ → ℤ → ℕ
count_read action (pos count) = if is_read action then count else 0
count_read action (negsuc n) = 0

-- the first bytes of a READ's buffer
abbrev pub read_text : ℕ → List ℕ → List ℕ
read_text count bytes = if nat_lt 0 count then spaced (flat_map hex_byte (take count bytes)) else []

-- an entry's key, type, size and name
abbrev pub entry_text : FileInfo → List ℕ
entry_text info =
    spaced (decimal info.key) ++ spaced (signed_decimal info.entry_type) ++ spaced (decimal info.size)
    ++ spaced info.name

-- the description of the volume
abbrev pub disk_text : DiskInfo → List ℕ
disk_text info =
    spaced (decimal info.state) ++ spaced (decimal info.blocks) ++ spaced (decimal info.used)
    ++ spaced (decimal info.bytes_per_block) ++ spaced (hex_long info.disk_type)

-- the text for a body, for this many bytes of a READ
abbrev pub text_by_body : Body → ℕ → List ℕ
text_by_body Empty count = []
text_by_body (Handle handle) count = []
text_by_body (Buffer bytes) count = read_text count bytes
text_by_body (Entry info) count = entry_text info
text_by_body (Disk info) count = disk_text info

abbrev pub body_text : Answer → List ℕ
body_text answer = text_by_body answer.body (count_read answer.action answer.res1)

-- the number of a client, a dot, and the number of a packet
abbrev pub label : ℕ → ℕ → List ℕ
label client number = decimal client ++ 46 ∷ decimal number

abbrev pub line : List ℕ → List ℕ
line text = text ++ 10 ∷ []

-- an answer's two results, and the text for its body
abbrev pub results : Answer → List ℕ
results answer = signed_decimal answer.res1 ++ spaced (signed_decimal answer.res2) ++ body_text answer

-- the line for a reply
abbrev pub reply_line : ℕ → ℕ → Answer → List ℕ
reply_line client number answer = line (label client number ++ spaced (results answer))

-- the lines for replies, numbered from this number
abbrev pub reply_lines : ℕ → ℕ → List Answer → List ℕ
reply_lines client number [] = []
reply_lines client number (answer ∷ answers) =
    reply_line client number answer ++ reply_lines client (number + 1) answers

-- the line for a put refused as closed; the packet would have had this number
abbrev pub closed_line : ℕ → ℕ → List ℕ
closed_line client number = line (label client number ++ spaced (codes "closed"))

-- the line for a client without a reply to the packet of this number
abbrev pub no_reply_line : ℕ → ℕ → List ℕ
no_reply_line client number = line (label client number ++ spaced (codes "no reply"))

-- the line for a client whose put found no room; the packet would have had this number
abbrev pub no_room_line : ℕ → ℕ → List ℕ
no_room_line client number = line (label client number ++ spaced (codes "no room"))

-- the line for a faulty line of a script, with its number
abbrev pub fault_line : ℕ → ℕ → List ℕ
fault_line client number = line (decimal client ++ spaced (codes "fault line ") ++ decimal number)
