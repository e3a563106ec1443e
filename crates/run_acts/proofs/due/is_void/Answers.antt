use Rattle.std.proofs.Common.{ap, sym}
use Rattle.linkage_rules.specs.SameShape.{same_shape}
use Rattle.type_table.specs.Shape.{Shape, void_leaf}
use Rattle.run_acts.proofs.due.is_void.Goals as goal

pub returns-in-Nothing : goal.returns-in-Nothing
returns-in-Nothing c = sym (ap (λ (s : Shape). same_shape s void_leaf) c.in-Nothing.ensures.shape.is)

pub returns-in-Int : goal.returns-in-Int
returns-in-Int c = sym (ap (λ (s : Shape). same_shape s void_leaf) c.in-Int.ensures.shape.is)

pub returns-in-Pointer : goal.returns-in-Pointer
returns-in-Pointer c = sym (ap (λ (s : Shape). same_shape s void_leaf) c.in-Pointer.ensures.shape.is)

pub returns-in-Opaque : goal.returns-in-Opaque
returns-in-Opaque c = sym (ap (λ (s : Shape). same_shape s void_leaf) c.in-Opaque.ensures.shape.is)

pub returns-in-Array : goal.returns-in-Array
returns-in-Array c = sym (ap (λ (s : Shape). same_shape s void_leaf) c.in-Array.ensures.shape.is)

pub returns-in-Struct : goal.returns-in-Struct
returns-in-Struct c = sym (ap (λ (s : Shape). same_shape s void_leaf) c.in-Struct.ensures.shape.is)
