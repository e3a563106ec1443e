use Rattle.std.proofs.Common.{IfOk, subst}
use Rattle.module_arena.specs.Lists.{Lists}
use Rattle.module_arena.specs.View.{constants_of}
use Rattle.instruction_verify.specs.Uses.Classes.{AreClasses}
use Rattle.instruction_verify.proofs.uses.classes.constant_classes.Goals as goal

pub returns-clause-classes : goal.returns-clause-classes
returns-clause-classes c =
    subst (λ (a : Lists). IfOk c.classes_of.result (λ classes. AreClasses (constants_of a) classes.items)) c.arena.ensures c.classes_of.ensures.classes
