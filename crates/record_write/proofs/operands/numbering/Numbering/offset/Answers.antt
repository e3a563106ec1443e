use Rattle.std.proofs.Common.{◌≡◌, subst, ◌∙◌}
use Rattle.module_arena.specs.Lists.{Lists}
use Rattle.module_arena.specs.View.{module_of}
use Rattle.record_table.specs.Spelling.{texts_of}
use Rattle.record_table.specs.StringTable.{once_each, offset_in}
use Rattle.record_write.proofs.OnOperands.Numbers.{offset_is}
use Rattle.record_write.proofs.operands.numbering.Numbering.offset.Goals as goal

pub returns : goal.returns
returns c =
    subst (λ (x : Lists). c.offset.result ≡ offset_in (once_each (texts_of (module_of x))) c.args.text.now) c.self.view_is
    (c.offset.ensures ∙ offset_is c.self.inside.texts (once_each (texts_of (module_of c.self.inside.arena.now))) c.args.text.now c.self.invariant.texts)
