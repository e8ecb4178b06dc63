-- What a handle owns.
use Rattle.std.specs.Prelude.{◌≡◌}
use base.Fml.{Fml, ftrue, fex}
use denote.RattleType.{RattleType}
use denote.RawPtr.{Ptr, null_ptr}
use Rattle.std.specs.declared.option.Option.{Option}
use Rattle.std.specs.declared.option.Option.TheVariants.{None, Some}
use Rattle.std.specs.declared.alloc.Global.{Global}
use Rattle.std.specs.contracts.impls.GlobalAllocator.TheImpl.{ghosts}
use Rattle.std_alloc.specs.Box.Ownership.{box_owns}

-- a handle with a value has a pointer to the value's box; a handle without one has the null pointer and owns nothing
abbrev pub holds : (R : RattleType) → Global → Ptr → Option R.Denot → Fml
holds R alloc p None = fex (p ≡ null_ptr) (λ _. ftrue)
holds R alloc p (Some x) = box_owns (ghosts.dealloc_token alloc) R p x
