use Rattle.adf_export.proofs.Common.{length, refl, ap, ◌∙◌, arith, Appends, on_err_weaker, on_ok_weaker, Stands, Tree, Writes, WritesFront, WritesFrontOf, BeginsList, IsList, listed, Listing, at_any_err}
use Rattle.adf_export.proofs.Written.{written_none, written_nothing, written_on, written_more, written_whole, written_front, written_so_far, none_in_turns, went_on, went_out}
use Rattle.adf_export.proofs.listing.write_list.Goals as goal
use Rattle.adf_export.proofs.listing.write_list.Goals.{else-loop-test, then-loop-test+in_ok-go_on+then-not-branch}

pub loop-init : goal.loop-init
loop-init g c = (c.in_ok-listing.ensures.keys, λ t s. written_none t c.args.order c.args.key c.args.form _ _ (c.in_ok-listing.ensures.starts t s))

pub returns-in_err-listing-clause-front : goal.returns-in_err-listing-clause-front
returns-in_err-listing-clause-front g c =
    let front : (t : Tree) → Stands c.args.volume.now.image t → WritesFrontOf (g.W.Write.contents c.args.writer.now) (g.W.Write.contents c.args.writer.now) (BeginsList t c.args.order c.args.key c.args.form) = λ t s. written_nothing t (listed t c.args.order c.args.key) c.args.form _ in
    at_any_err _ front

pub start-requires : goal.start-requires
start-requires g c = c.requires

pub go_on-requires : goal.go_on-requires
go_on-requires g c = c.loop.invariant.0

pub returns-in_err-go_on-clause-front : goal.returns-in_err-go_on-clause-front
returns-in_err-go_on-clause-front g c =
    let front : (t : Tree) → Stands c.args.volume.now.image t → WritesFrontOf (g.W.Write.contents c.args.writer.now) (g.W.Write.contents c.loop.writer) (BeginsList t c.args.order c.args.key c.args.form) = λ t s. written_so_far t c.args.order c.args.key c.args.form _ _ _ _ (c.loop.invariant.1 t s) in
    at_any_err _ front

pub returns-in_err-write_when_long-clause-front : goal.returns-in_err-write_when_long-clause-front
returns-in_err-write_when_long-clause-front g c =
    let front : (t : Tree) → Stands c.args.volume.now.image t → WritesFrontOf (g.W.Write.contents c.args.writer.now) (g.W.Write.contents c.write_when_long.new.writer) (BeginsList t c.args.order c.args.key c.args.form) = λ t s.
    let w = c.loop.invariant.1 t s in
    let on = written_on t c.args.order c.args.key c.args.form _ _ c.loop.listing c.go_on.new.self c.loop.counter w
    (went_on t c.args.order c.args.key c.args.form c.loop.listing c.go_on.new.self w.first w.left c.in_ok-go_on.field-0 c.if-not-branch.false (c.in_ok-go_on.ensures.goes t c.args.key s w.first w.left w.so_far)) in
    written_front t c.args.order c.args.key c.args.form _ _ _ c.go_on.new.self _ c.go_on.new.self.text.items on refl c.in_err-write_when_long.ensures.front in
    at_any_err _ front

pub loop-preserved : goal.loop-preserved
loop-preserved g c = (
  c.in_ok-go_on.ensures.keys,
  λ t s.
      let w = c.loop.invariant.1 t s in
      let on = written_on t c.args.order c.args.key c.args.form _ _ c.loop.listing c.go_on.new.self c.loop.counter w
      (went_on t c.args.order c.args.key c.args.form c.loop.listing c.go_on.new.self w.first w.left c.in_ok-go_on.field-0 c.if-not-branch.false (c.in_ok-go_on.ensures.goes t c.args.key s w.first w.left w.so_far)) in
      written_more t c.args.order c.args.key c.args.form _ _ _ c.go_on.new.self _ _ on c.in_ok-write_when_long.ensures.ok refl refl,
)

pub returns-clause-ok : goal.returns-clause-ok
returns-clause-ok g c =
    let whole : Appends (g.W.Write.contents c.loop.writer) (g.W.Write.contents c.write_text.new.writer) c.as_slice.result.now
    → (t : Tree) → Stands c.args.volume.now.image t → Writes (g.W.Write.contents c.args.writer.now) (g.W.Write.contents c.write_text.new.writer) (IsList t c.args.order c.args.key c.args.form) =
    λ appended t s.
    let it = c.loop.invariant.1 t s in
    elim c.loop-test.branch [
      | else-loop-test w ↦
          written_whole t c.args.order c.args.key c.args.form _ _ _ c.loop.listing c.loop.counter c.as_slice.result.now it
          (none_in_turns t c.args.order c.args.key c.args.form _ _ c.loop.listing c.loop.counter it (omega (arith, w.loop-test.false, c.blocks-2.ensures.whole, ap length c.image.ensures.same, s.whole)))
          (c.as_slice.ensures.value ∙ ap (λ (l : Listing). l.text.items) w.listing-is) appended
      | then-loop-test+in_ok-go_on+then-not-branch w ↦
          let out = went_out t c.args.order c.args.key c.args.form c.loop.listing w.go_on.new.self it.first it.left w.in_ok-go_on.field-0 w.if-not-branch.true (w.in_ok-go_on.ensures.goes t c.args.key s it.first it.left it.so_far) in
          written_whole t c.args.order c.args.key c.args.form _ _ _ c.loop.listing c.loop.counter c.as_slice.result.now it
          out.0 (c.as_slice.ensures.value ∙ ap (λ (l : Listing). l.text.items) w.listing-is ∙ out.1) appended
    ] in
    on_ok_weaker c.write_text.result whole c.write_text.ensures.ok

pub returns-clause-front : goal.returns-clause-front
returns-clause-front g c =
    let front : WritesFront (g.W.Write.contents c.loop.writer) (g.W.Write.contents c.write_text.new.writer) c.as_slice.result.now
    → (t : Tree) → Stands c.args.volume.now.image t → WritesFrontOf (g.W.Write.contents c.args.writer.now) (g.W.Write.contents c.write_text.new.writer) (BeginsList t c.args.order c.args.key c.args.form) =
    λ taken t s.
    let it = c.loop.invariant.1 t s in
    elim c.loop-test.branch [
      | else-loop-test w ↦
          written_front t c.args.order c.args.key c.args.form _ _ _ c.loop.listing c.loop.counter c.as_slice.result.now it (c.as_slice.ensures.value ∙ ap (λ (l : Listing). l.text.items) w.listing-is) taken
      | then-loop-test+in_ok-go_on+then-not-branch w ↦
          let out = went_out t c.args.order c.args.key c.args.form c.loop.listing w.go_on.new.self it.first it.left w.in_ok-go_on.field-0 w.if-not-branch.true (w.in_ok-go_on.ensures.goes t c.args.key s it.first it.left it.so_far) in
          written_front t c.args.order c.args.key c.args.form _ _ _ c.loop.listing c.loop.counter c.as_slice.result.now it (c.as_slice.ensures.value ∙ ap (λ (l : Listing). l.text.items) w.listing-is ∙ out.1) taken
    ] in
    on_err_weaker c.write_text.result front c.write_text.ensures.front
