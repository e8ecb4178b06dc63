-- The paths that arguments name, in memory.
use Rattle.std.specs.Prelude.{◌≡◌, ℕ, List}
use Rattle.std.specs.BTreeSet.{contains_text}
use Rattle.std.specs.List.{list_any}
use Rattle.std.specs.Str.{bytes_eq}
use Rattle.adf_rescue.specs.declared.asked.Asked.{Asked}
use Rattle.adf_rescue.specs.Undelete.{takes_root}

-- these are the paths
pub record AreAsked (keys : List (List ℕ)) (asked : Asked) : Type 0 where
  pub same : (text : List ℕ) → contains_text asked.keys text ≡ list_any (λ key. bytes_eq key text) keys
  pub root : asked.root ≡ takes_root keys
