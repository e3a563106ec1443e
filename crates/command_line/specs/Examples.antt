-- Says how the code of `read_words` reads: lines that compute.
use Rattle.std.specs.Prelude.{◌≡◌, [], ◌∷◌, codes, refl, Ok, Err, Some, None}
use Rattle.command_line.specs.declared.command.UsageKind.TheVariants.{NoTool, Repeated, NoFile}
use Rattle.command_line.specs.declared.command.OutputName.TheVariants.{File}
use Rattle.command_line.specs.declared.command.Command.TheVariants.{Assemble, Lli}
use Rattle.command_line.specs.declared.tool.Tool.TheVariants as tools
use Rattle.command_line.specs.declared.options.Setting.TheVariants as settings
use Rattle.command_line.specs.Options.{word_spelling}
use Rattle.command_line.specs.Numbers.{number_of}
use Rattle.command_line.specs.Roles.{roles, Open, Value, Input}
use Rattle.command_line.specs.Reading.{scan, reading}

-- without any word there is no tool
pub no_words : reading [] ≡ Err (NoTool, 0)
no_words = refl

-- nothing is linked without a file
pub a_link_of_nothing : reading (codes "llvm-link" ∷ []) ≡ Err (NoFile, 1)
unfolding word_spelling scan
a_link_of_nothing = refl

-- a file that is assembled has an output beside it
pub a_file_to_assemble : reading (codes "llvm-as" ∷ codes "missing.ll" ∷ []) ≡ Ok (Assemble (codes "missing.ll") (File (codes "missing.bc")))
unfolding word_spelling scan
a_file_to_assemble = refl

-- behind a program's file all words are the program's, options too
pub a_program_with_words : reading (codes "lli" ∷ codes "a.ll" ∷ codes "-o" ∷ []) ≡ Ok (Lli (codes "a.ll") 1000000000 (codes "a.ll" ∷ codes "-o" ∷ []))
unfolding word_spelling scan
a_program_with_words = refl

-- the word behind `-o` is its value, whatever it is
pub an_output_named_by_two_dashes : roles tools.LlvmAs (codes "-o" ∷ codes "--" ∷ codes "a" ∷ [])
    ≡ Input (codes "a") ∷ Value settings.Output (codes "--") ∷ Open settings.Output ∷ []
unfolding word_spelling
an_output_named_by_two_dashes = refl

-- an output is given once
pub an_output_again : reading (codes "llvm-as" ∷ codes "-o=a" ∷ codes "--o" ∷ codes "a" ∷ []) ≡ Err (Repeated, 2)
unfolding word_spelling scan
an_output_again = refl

-- 2 ^ 32 is the largest number
pub the_largest_number : number_of (codes "4294967296") ≡ Some 4294967296
the_largest_number = refl

-- a number above 2 ^ 32 is none
pub a_larger_number : number_of (codes "4294967297") ≡ None
a_larger_number = refl

-- a number has no zero in front
pub a_zero_in_front : number_of (codes "07") ≡ None
a_zero_in_front = refl

-- zero is a number
pub zero : number_of (codes "0") ≡ Some 0
zero = refl
