-- The texts of the module that lists stand for.
use Rattle.std.proofs.Common.{◌≡◌, refl}
use Rattle.module_arena.specs.Lists.{Lists}
use Rattle.module_arena.specs.View.{module_of}

pub source_is : (a : Lists) → (module_of a).source ≡ a.source
unfolding module_of
source_is a = refl

pub layout_is : (a : Lists) → (module_of a).layout ≡ a.layout
unfolding module_of
layout_is a = refl

pub triple_is : (a : Lists) → (module_of a).triple ≡ a.triple
unfolding module_of
triple_is a = refl
