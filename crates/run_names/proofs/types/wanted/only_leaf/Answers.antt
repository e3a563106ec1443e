use Rattle.std.proofs.Common.{ap, sym}
use Rattle.run_names.specs.Types.Wanted.{leaf_of}
use Rattle.run_names.proofs.types.wanted.only_leaf.Goals as goal

pub returns-in-Int : goal.returns-in-Int
returns-in-Int c = sym (ap leaf_of c.in-Int.ensures.shape.is)

pub returns-in-Pointer : goal.returns-in-Pointer
returns-in-Pointer c = sym (ap leaf_of c.in-Pointer.ensures.shape.is)

pub returns-in-Nothing : goal.returns-in-Nothing
returns-in-Nothing c = sym (ap leaf_of c.in-Nothing.ensures.shape.is)

pub returns-in-Opaque : goal.returns-in-Opaque
returns-in-Opaque c = sym (ap leaf_of c.in-Opaque.ensures.shape.is)

pub returns-in-Array : goal.returns-in-Array
returns-in-Array c = sym (ap leaf_of c.in-Array.ensures.shape.is)

pub returns-in-Struct : goal.returns-in-Struct
returns-in-Struct c = sym (ap leaf_of c.in-Struct.ensures.shape.is)
