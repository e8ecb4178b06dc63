-- The values of replies, which later lines can use.
use Rattle.std.specs.Prelude.{ℕ, zero, suc, ℤ, pos, negsuc, List, map, slice_get, Option, Some, None}
use Rattle.std.specs.Option.{option_flatten}
use Rattle.ados_model.specs.declared.answer.Answer.{Answer}
use Rattle.ados_model.specs.declared.answer.Body.{Body}
use Rattle.ados_model.specs.declared.answer.Body.TheVariants.{Empty, Buffer, Handle, Entry, Disk}

-- the value of a first result: none if it is negative
abbrev pub result_value : ℤ → Option ℕ
result_value (pos n) = Some n
result_value (negsuc n) = None

-- the value of an answer: its handle, else the key of its entry, else its first result
abbrev pub value_by_body : Body → ℤ → Option ℕ
value_by_body (Handle handle) res1 = Some handle
value_by_body (Entry info) res1 = Some info.key
value_by_body Empty res1 = result_value res1
value_by_body (Buffer bytes) res1 = result_value res1
value_by_body (Disk info) res1 = result_value res1

abbrev pub answer_value : Answer → Option ℕ
answer_value answer = value_by_body answer.body answer.res1

abbrev pub answer_values : List Answer → List (Option ℕ)
answer_values answers = map answer_value answers

-- the value of the reply with this number, from 1
abbrev pub reply_value : List (Option ℕ) → ℕ → Option ℕ
reply_value values zero = None
reply_value values (suc place) = option_flatten (slice_get values place)
