use Rattle.std.proofs.Common.{subst}
use Rattle.ados_port.proofs.Gathers.{at_place, same_but_set, one_of}
use Rattle.ados_port.proofs.Eachs.{get_set_same}
use Rattle.ados_port.specs.steps.Rooms.{Left}
use Rattle.ados_port.specs.Rings.{all_of}
use Rattle.ados_port.proofs.gathering.take_in_one.Goals as goal

pub leave-end-requires-clause-ring : goal.leave-end-requires-clause-ring
leave-end-requires-clause-ring g c =
    (c.requires.room _ _ (at_place _ _ _ c.requires.places.0 c.index_mut-outlet.ensures.value) (at_place _ _ _ c.requires.places.1 c.index_mut-room.ensures.value)).1.0

pub leave-end-requires-clause-room : goal.leave-end-requires-clause-room
leave-end-requires-clause-room g c =
    (c.requires.room _ _ (at_place _ _ _ c.requires.places.0 c.index_mut-outlet.ensures.value) (at_place _ _ _ c.requires.places.1 c.index_mut-room.ensures.value)).0

pub leave-end-requires-clause-numbers : goal.leave-end-requires-clause-numbers
leave-end-requires-clause-numbers g c =
    (c.requires.room _ _ (at_place _ _ _ c.requires.places.0 c.index_mut-outlet.ensures.value) (at_place _ _ _ c.requires.places.1 c.index_mut-room.ensures.value)).1.1

pub returns-clause-outlets : goal.returns-clause-outlets
returns-clause-outlets g c = same_but_set _ _ _

pub returns-clause-untaken : goal.returns-clause-untaken
returns-clause-untaken g c = same_but_set _ _ _

pub returns-clause-replies : goal.returns-clause-replies
returns-clause-replies g c = λ o at. (
  _,
  get_set_same _ _ _ c.requires.places.1,
  subst (λ x. Left c.args.client (all_of x) c.leave-end.new.room.items) (one_of c.args.outlets.now.items c.args.k _ o (at_place _ _ _ c.requires.places.0 c.index_mut-outlet.ensures.value) at) c.leave-end.ensures.replies,
)
