-- A module whose texts are set.
use Rattle.std.proofs.Common.{◌≡◌, Option, ap}
use Rattle.module_arena.specs.Changes as changes
use Rattle.module_arena.specs.Lists.{Lists}
use Rattle.module_arena.specs.Module.{Bytes}
use Rattle.module_arena.specs.View.{module_of}
use Rattle.item_build.specs.Texts.{with_texts}

pub module_texts : (a b : Lists) (source layout triple : Option Bytes) → b ≡ changes.with_texts a source layout triple → module_of b ≡ with_texts (module_of a) source layout triple
unfolding module_of
module_texts a b source layout triple set = ap module_of set
