-- The bytes of a module in each format.
use Rattle.std.proofs.Common.{◌≡◌, refl}
use Rattle.canonical.specs.Canonical.{canon}
use Rattle.module_arena.specs.Module.{Module}
use Rattle.record_table.specs.Spelling.{spelling}
use Rattle.tool_output.specs.Written.{written}
use Rattle.tool_output.specs.declared.format.OutputFormat.TheVariants.{CanonicalText, Bitcode}

pub text_is : (m : Module) → written CanonicalText m ≡ canon m
unfolding written
text_is m = refl

pub bitcode_is : (m : Module) → written Bitcode m ≡ spelling m
unfolding written
bitcode_is m = refl
