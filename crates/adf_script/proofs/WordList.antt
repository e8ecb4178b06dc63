-- The words of lines: each is found by its keyword, and each packet has one.
use Rattle.adf_script.proofs.Common.{◌≡◌, ◌≢◌, Bool, true, false, ℕ, ◌<◌, List, [], ◌∷◌, get_or, Option, Some, None, refl, sym, ap, ◌∙◌, arith, ◌==◌, ◌&&◌, if◌then◌else◌, has_byte, IsCut, Packet, form_of, IsPacketLine, IsFaulty}
use Rattle.std.specs.Prelude.{map}
use Rattle.ados_model.specs.declared.packet.Packet.TheVariants as packet
use Rattle.adf_script.specs.declared.forms.TheConstants.Word.{ALL}
use Rattle.adf_script.specs.declared.forms.Word.{Word}
use Rattle.adf_script.specs.declared.forms.Word.TheVariants.{Die, DiskInfo, Locate, Free, Copy, Parent, Examine, Info, Next, Same, Delete, MakeDir, Rename, RenameDisk, Protect, Comment, Date, Update, Input, Output, Read, Write, End, Seek, Size, Other}
use Rattle.adf_script.specs.steps.Reading.{kind_of}
use Rattle.adf_script.specs.steps.Words.{shape_of}
use Rattle.adf_script.proofs.FieldLemmas.{cut_unique, behind_fields}

abbrev same_bytes : List ℕ → List ℕ → Bool
same_bytes [] [] = true
same_bytes (x ∷ xs) (y ∷ ys) = (x == y) && same_bytes xs ys
same_bytes [] (y ∷ ys) = false
same_bytes (x ∷ xs) [] = false

-- the first word of these with this keyword
abbrev found : List ℕ → List Word → Option Word
found bytes [] = None
found bytes (word ∷ words) = if same_bytes (shape_of word).0 bytes then Some word else found bytes words

-- a word's position in the list; it is found by its keyword, which has no space
abbrev IsListed : Word → Type 0
IsListed word = (k : ℕ) × (k < 26) × (get_or ALL k Die ≡ word) × (found (shape_of word).0 ALL ≡ Some word) × (has_byte 32 (shape_of word).0 ≡ false)

listed : (word : Word) → IsListed word
listed Die = (0, omega arith, refl, refl, refl)
listed DiskInfo = (1, omega arith, refl, refl, refl)
listed Locate = (2, omega arith, refl, refl, refl)
listed Free = (3, omega arith, refl, refl, refl)
listed Copy = (4, omega arith, refl, refl, refl)
listed Parent = (5, omega arith, refl, refl, refl)
listed Examine = (6, omega arith, refl, refl, refl)
listed Info = (7, omega arith, refl, refl, refl)
listed Next = (8, omega arith, refl, refl, refl)
listed Same = (9, omega arith, refl, refl, refl)
listed Delete = (10, omega arith, refl, refl, refl)
listed MakeDir = (11, omega arith, refl, refl, refl)
listed Rename = (12, omega arith, refl, refl, refl)
listed RenameDisk = (13, omega arith, refl, refl, refl)
listed Protect = (14, omega arith, refl, refl, refl)
listed Comment = (15, omega arith, refl, refl, refl)
listed Date = (16, omega arith, refl, refl, refl)
listed Update = (17, omega arith, refl, refl, refl)
listed Input = (18, omega arith, refl, refl, refl)
listed Output = (19, omega arith, refl, refl, refl)
listed Read = (20, omega arith, refl, refl, refl)
listed Write = (21, omega arith, refl, refl, refl)
listed End = (22, omega arith, refl, refl, refl)
listed Seek = (23, omega arith, refl, refl, refl)
listed Size = (24, omega arith, refl, refl, refl)
listed Other = (25, omega arith, refl, refl, refl)

-- no word of the list has this keyword
pub none_listed : (bytes : List ℕ) → ((k : ℕ) → k < 26 → bytes ≢ (shape_of (get_or ALL k Die)).0) → (word : Word) → bytes ≢ (shape_of word).0
none_listed bytes none word e = none (listed word).0 (listed word).1 (e ∙ sym (ap (λ w. (shape_of w).0) (listed word).2))

-- a packet's word, whose keyword and fields it has
of_packet : (p : Packet) → (word : Word) × ((form_of p).0 ≡ (shape_of word).0) × (map kind_of (form_of p).1 ≡ (shape_of word).1)
of_packet packet.Die = (Die, refl, refl)
of_packet packet.DiskInfo = (DiskInfo, refl, refl)
of_packet (packet.LocateObject lock path mode) = (Locate, refl, refl)
of_packet (packet.FreeLock lock) = (Free, refl, refl)
of_packet (packet.CopyDir lock) = (Copy, refl, refl)
of_packet (packet.Parent lock) = (Parent, refl, refl)
of_packet (packet.ExamineObject lock) = (Examine, refl, refl)
of_packet (packet.Info lock) = (Info, refl, refl)
of_packet (packet.ExamineNext lock key) = (Next, refl, refl)
of_packet (packet.SameLock first second) = (Same, refl, refl)
of_packet (packet.DeleteObject lock path) = (Delete, refl, refl)
of_packet (packet.CreateDir lock path) = (MakeDir, refl, refl)
of_packet (packet.RenameObject from_lock from to_lock to) = (Rename, refl, refl)
of_packet (packet.RenameDisk name) = (RenameDisk, refl, refl)
of_packet (packet.SetProtect lock path bits) = (Protect, refl, refl)
of_packet (packet.SetComment lock path comment) = (Comment, refl, refl)
of_packet (packet.SetDate lock path date) = (Date, refl, refl)
of_packet (packet.FindUpdate lock path) = (Update, refl, refl)
of_packet (packet.FindInput lock path) = (Input, refl, refl)
of_packet (packet.FindOutput lock path) = (Output, refl, refl)
of_packet (packet.Read handle buffer) = (Read, refl, refl)
of_packet (packet.Write handle bytes) = (Write, refl, refl)
of_packet (packet.End handle) = (End, refl, refl)
of_packet (packet.Seek handle offset mode) = (Seek, refl, refl)
of_packet (packet.SetFileSize handle offset mode) = (Size, refl, refl)
of_packet (packet.Other action) = (Other, refl, refl)

module _ (values : List (Option ℕ)) (line front rest : List ℕ) (is_cut : IsCut line front rest) where
  front_and_rest : (p : Packet) (s : IsPacketLine values p line) → ((form_of p).0 ≡ front) × (s.0 ≡ rest)
  front_and_rest p s =
      let of_p = of_packet p
      in cut_unique (form_of p).0 front s.0 rest (ap (has_byte 32) of_p.1 ∙ (listed of_p.0).4) is_cut.plain
      (behind_fields values (form_of p).1 s.0 s.2) is_cut.ended (sym s.1 ∙ is_cut.whole)

  -- a line that starts with no keyword
  pub unknown : ((word : Word) → front ≢ (shape_of word).0) → IsFaulty values line
  unknown none p s = none (of_packet p).0 (sym (front_and_rest p s).0 ∙ (of_packet p).1)
