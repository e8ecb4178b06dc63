use Rattle.std.proofs.Common.{◌≡◌, ℕ, List, Some, is_some, ap, subst, arith}
use Rattle.adf_import.proofs.Common.{Node, Tree, size_of, Stands, content_in, FileInfo, file_info}
use Rattle.ados_model.specs.Keys.{HasFileKey}
use Rattle.adf_import.proofs.Filling.{is_cut, is_not_cut}
use Rattle.adf_import.proofs.Rooms.{size_told}
use Rattle.adf_import.proofs.new_file.cut_behind.Goals as goal

-- the size in a file's description
told : (image : List ℕ) (key : ℕ) → HasFileKey image key → (t : Tree) → Stands image t → (info : FileInfo) → ((node : Node) → t.nodes key ≡ Some node → info ≡ file_info t.format key node) → info.size ≡ size_of t key
told image key file t s info is = let n = content_in (t.nodes key) _ (file t s).1 in size_told t key n.0 info n.1 (is n.0 n.1)

pub examine-requires : goal.examine-requires
examine-requires c = λ t s. let n = content_in (t.nodes c.args.key) _ (c.requires t s).1 in ap is_some n.1

pub returns-then-examine-size-clause-stands : goal.returns-then-examine-size-clause-stands
returns-then-examine-size-clause-stands c = λ t s. subst (Stands c.args.volume.now.image) (is_not_cut t c.args.moment c.args.key c.args.size (omega (arith, told c.args.volume.now.image c.args.key c.requires t s c.examine.result (λ n e. c.examine.ensures t n s e)))) s

pub cut-requires-clause-shorter : goal.cut-requires-clause-shorter
cut-requires-clause-shorter c = λ t s. omega (arith, told c.args.volume.now.image c.args.key c.requires t s c.examine.result (λ n e. c.examine.ensures t n s e))

pub returns-clause-stands : goal.returns-clause-stands
returns-clause-stands c = λ t s. subst (Stands c.cut.new.self.image) (is_cut t c.args.moment c.args.key c.args.size (omega (arith, told c.args.volume.now.image c.args.key c.requires t s c.examine.result (λ n e. c.examine.ensures t n s e)))) (c.cut.ensures.stands t s)
