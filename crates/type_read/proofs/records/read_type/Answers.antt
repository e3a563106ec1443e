use Rattle.std.proofs.Common.{refl}
use Rattle.type_read.proofs.records.read_type.Goals as goal

pub returns-in-Int : goal.returns-in-Int
returns-in-Int c = rw c.in-Int.is c.read_integer.ensures

pub returns-in-Ptr : goal.returns-in-Ptr
returns-in-Ptr c = rw c.in-Ptr.is (record { kept = (refl, tt); reader = refl })

pub returns-in-Void : goal.returns-in-Void
returns-in-Void c = rw c.in-Void.is (record { kept = (refl, tt); reader = refl })

pub returns-in-Array : goal.returns-in-Array
returns-in-Array c = rw c.in-Array.is c.read_array.ensures

pub returns-in-Struct : goal.returns-in-Struct
returns-in-Struct c = rw c.in-Struct.is c.read_structure.ensures

pub returns-in-Named : goal.returns-in-Named
returns-in-Named c = rw c.in-Named.is c.read_named.ensures
