use Rattle.std.proofs.Common.{ap, sym}
use Rattle.run_rules.specs.Leaves.{width}
use Rattle.run_names.proofs.shapes.form.width.Goals as goal

pub returns-in-Int : goal.returns-in-Int
returns-in-Int c = sym (ap width c.in-Int.ensures.shape.is)

pub returns-in-Pointer : goal.returns-in-Pointer
returns-in-Pointer c = sym (ap width c.in-Pointer.ensures.shape.is)

pub returns-in-Nothing : goal.returns-in-Nothing
returns-in-Nothing c = sym (ap width c.in-Nothing.ensures.shape.is)

pub returns-in-Opaque : goal.returns-in-Opaque
returns-in-Opaque c = sym (ap width c.in-Opaque.ensures.shape.is)

pub returns-in-Array : goal.returns-in-Array
returns-in-Array c = sym (ap width c.in-Array.ensures.shape.is)

pub returns-in-Struct : goal.returns-in-Struct
returns-in-Struct c = sym (ap width c.in-Struct.ensures.shape.is)
