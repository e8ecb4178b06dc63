use Rattle.std.proofs.Common.{◌≡◌, ◌∷◌, ◌++◌, codes, take}
use Rattle.adf_archive.proofs.Common.{flat_map, begin_array, key, suspect_tokens}
use Rattle.adf_archive.proofs.objects.put_suspects.Given as goal

-- the key, and the objects of the blocks before this one
abbrev pub invariant-loop-suspect : goal.invariant-loop-suspect
invariant-loop-suspect l =
    (l.writer.before ≡ l.fn.writer.before)
    × (l.writer.tokens ≡ l.fn.writer.tokens ++ key (codes "suspects") ∷ begin_array ∷ flat_map suspect_tokens (take l.suspect-index l.suspects))
