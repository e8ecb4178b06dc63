-- The names that most of these proofs cite, passed on from one place. Declares nothing.
pub use Rattle.adf_block.proofs.Frames.{block_from_long, other_block_sum, same_bytes_at, same_count, same_long, same_trans, same_weaken}
pub use Rattle.adf_block.specs.Fields.{table_entry}
pub use Rattle.adf_block.specs.Frame.{AtLong, SameBut}
pub use Rattle.adf_block.specs.Image.{Chained, block_count, byte_at, long, root_key}
pub use Rattle.adf_block.specs.declared.beside.TheConstants.{CHECKSUM}
pub use Rattle.adf_block.specs.declared.layout.TheConstants.{FIRST_SLOT, NAME_BYTE, NEXT_IN_CHAIN}
pub use Rattle.ados_chain.specs.Chains.{InChains, IsEntryBlock, LawfulChains, chains_from, entries_of, name_at, slot_at, with_last, without}
pub use Rattle.ados_chain.specs.Links.{BeginsWith, IsLink, LeadsTo}
pub use Rattle.ados_chain.specs.Look.{FindsSlot, IsFirstNamed, NoneNamed, first_left}
pub use Rattle.ados_chain.specs.Relinks.{AtLinks, CanUnlink, InsertsLast, Relinks, Unlinks, link_block, link_long}
pub use Rattle.ados_chain.specs.declared.read.Next.TheVariants.{End, Entry}
pub use Rattle.ados_model.proofs.KeyLists.{Contains-here, Contains-later, Contains-nil, Contains-split, Once, Once-apart, Once-before, Once-behind, Once-front, Once-head, Once-tail, filter-absent, filter-once, is_not, length-once}
pub use Rattle.ados_model.specs.Tree.{behind}
pub use Rattle.ados_name.specs.Name.{IsName, Same, slot}
pub use Rattle.std.proofs.Common.{Bool, Contains, Err, List, None, Ok, Option, Result, Some, [], ap, append-nil, append_assoc, ap₂, arith, cond, drop, eq-eqb, false, filter, get_or, inl, inr, length, length-append, min, refl, slice_index, subst, suc, sym, take, true, zero, ℕ, ◌*◌, ◌++◌, ◌+◌, ◌-◌, ◌/◌, ◌<◌, ◌==◌, ◌↔◌, ◌∙◌, ◌∷◌, ◌≡◌, ◌≢◌, ◌≤◌, ◌⊎◌}
pub use Rattle.std.proofs.lemmas.Bool.{cases_eq, ne_eqb}
pub use Rattle.std.proofs.lemmas.List.Elements.{Contains-append_cases, Contains-append_left, Contains-append_right, Contains-get_or, Contains-push_cases}
