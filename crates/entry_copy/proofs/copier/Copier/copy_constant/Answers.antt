use Rattle.std.proofs.Common.{length, sym, subst}
use Rattle.std.proofs.lemmas.Result.{on_ok_weaker}
use Rattle.module_arena.specs.Changes.{constant_in}
use Rattle.module_arena.specs.Known.{counts, KnowsConst}
use Rattle.item_build.specs.Types.Stands.{IsConstant}
use Rattle.entry_copy.specs.Copies.{CopiesConstants}
use Rattle.entry_copy.proofs.ConstantsCopied.{next_known, next_copied}
use Rattle.entry_copy.proofs.copier.Copier.copy_constant.Goals as goal

pub keep_constant-requires : goal.keep_constant-requires
keep_constant-requires c =
    let b = c.args.into.now.arena in
    let can = c.requires.copies in
    subst (KnowsConst (length b.table.types) (counts b) (length b.constants)) (sym c.in_ok-moved.ensures)
    (next_known can.0 can.1 c.args.from.now b c.args.self.now can.2 can.3 c.requires.all_types c.variable_count-good.ensures.good c.constant.result.now c.args.id c.requires.next c.constant.ensures)

pub returns-clause-copies : goal.returns-clause-copies
returns-clause-copies c structs globals types constants =
    let b = c.args.into.now.arena in
    let new = c.keep_constant.new.self.arena in
    let made = subst (λ x. IsConstant new c.in_ok-new.new (constant_in b x)) c.in_ok-moved.ensures c.in_ok-new.ensures.is in
    on_ok_weaker c.push_constant.result
    (λ same. subst (CopiesConstants structs globals c.args.from.now new) (sym same)
    (next_copied structs globals c.args.from.now b c.args.self.now types constants c.requires.all_types c.variable_count-good.ensures.good c.constant.result.now c.args.id c.requires.next c.constant.ensures new c.in_ok-new.ensures.grows c.in_ok-new.new made))
    c.push_constant.ensures
