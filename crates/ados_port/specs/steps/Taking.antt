-- The places of a client's list of replies, and the effect of a put and a take on a client.
use Rattle.std.specs.Prelude.{◌≡◌, ◌⊎◌, ℕ, ◌+◌, [], ◌∷◌}
use Rattle.std.specs.VecDeque.{deque_len, deque_capacity}
use Rattle.ados_port.specs.declared.step.Reply.{Reply}
use Rattle.ados_port.specs.declared.counts.Client.{Client}

-- the number of places in its list of replies
abbrev pub places_of : {A : Type 0} → Client A → ℕ
places_of c = deque_capacity c.replies

-- each place has a reply or is kept for that to a waiting packet, or the count is at its maximum
abbrev pub HasNoPlace : {A : Type 0} → Client A → Type 0
HasNoPlace c = (deque_len c.replies + c.waiting ≡ places_of c) ⊎ (c.accepted ≡ 18446744073709551615)

-- one more packet was accepted, and this is its number
abbrev pub CountsOne : {A : Type 0} → Client A → Client A → ℕ → Type 0
CountsOne old new number = (number ≡ old.accepted + 1) × (new.accepted ≡ number)

-- there is no reply, and none was taken
abbrev pub HasNoReply : {A : Type 0} → Client A → Client A → Type 0
HasNoReply old new = (old.replies.items ≡ []) × (new.replies.items ≡ []) × (new.taken ≡ old.taken)

-- the first reply was handed out, and its number is the count of takes
abbrev pub HandsOut : {A : Type 0} → Client A → Client A → Reply A → Type 0
HandsOut old new reply = (old.replies.items ≡ reply.answer ∷ new.replies.items) × (new.taken ≡ old.taken + 1) × (reply.number ≡ old.taken + 1)
