use Rattle.std.proofs.Common.{ℕ, Option, ◌∙◌, ap, subst, sym}
use Rattle.std.specs.Option.{option_map}
use Rattle.record_table.specs.Constants.{read_constant}
use Rattle.record_table.specs.Lines.{case_of}
use Rattle.type_read.specs.Arena.Growing.{IsConstant}
use Rattle.type_read.specs.Arena.Kept.{IsRead, tree_at}
use Rattle.body_read.specs.Operands.Found.{Finds, both}
use Rattle.body_read.proofs.OnOperands.Leaves.{block_found}
use Rattle.body_read.specs.Endings.Ends.{HasCase, case_in, kept_case}
use Rattle.body_read.proofs.OnEndings.Parts.{case_found}
use Rattle.body_read.proofs.endings.switch.read_case.Goals as goal

pub returns : goal.returns
returns c =
    let m0 = c.args.m.now in
    let m1 = c.read_constant.new.m in
    let m2 = c.read_block-target.new.m in
    let t = c.args.ty.now in
    subst (Finds HasCase case_in (λ k. (case_of k (tree_at m0.growing.arena.table t)).read) m0 m2)
    (sym (c.case_of.ensures ∙ ap (λ (x : Option ℕ). option_map kept_case (both x (both c.in_ok-value.value c.read_block-target.result))) c.same-2.ensures))
    (case_found m0 m1 m2 t c.in_ok-value.value c.read_block-target.result c.requires c.in_ok-value.ensures.keeps
    (λ k n. subst (λ (o : Option ℕ). IsRead k IsConstant (read_constant k (tree_at m0.growing.arena.table o) m0.reader.walk) m0 m1 c.in_ok-value.value) c.same.ensures (c.in_ok-value.ensures.reads k n))
    (block_found m1 m2 c.read_block-target.result c.read_block-target.ensures.takes c.read_block-target.ensures.reads))
