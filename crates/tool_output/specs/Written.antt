-- For `write_module`: the bytes that stand for a module in each format.
use Rattle.std.specs.Prelude.{ℕ, List}
use Rattle.canonical.specs.Canonical.{canon}
use Rattle.module_arena.specs.Module.{Module}
use Rattle.record_table.specs.Spelling.{spelling}
use Rattle.tool_output.specs.declared.format.OutputFormat.{OutputFormat}
use Rattle.tool_output.specs.declared.format.OutputFormat.TheVariants.{CanonicalText, Bitcode}

-- of canonical text the text itself, of bitcode the one spelling
unfoldable pub written : OutputFormat → Module → List ℕ
written CanonicalText m = canon m
written Bitcode m = spelling m
