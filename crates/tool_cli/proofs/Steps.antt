-- Steps that words give are no more than a run may make.
use Rattle.std.proofs.Common.{◌≡◌, ℕ, ◌+◌, ◌≤◌, ◌^◌, ◌==◌, Bool, true, false, not, ◌&&◌, cond, nat_le, List, [], ◌∷◌, ◌++◌, length, drop, Option, Some, None, Result, Ok, Err, refl, sym, subst, arith, true≢false}
use Rattle.std.specs.List.{list_all}
use Rattle.std.specs.Char.{is_ascii_digit}
use Rattle.std.proofs.lemmas.Bool.{leb-true}
use Rattle.command_line.specs.declared.command.Command.{Command}
use Rattle.command_line.specs.declared.command.UsageKind.{UsageKind}
use Rattle.command_line.specs.declared.command.UsageKind.TheVariants.{NoTool, UnknownOption, MissingValue, BadNumber, Repeated, TooManyFiles, NoFile}
use Rattle.command_line.specs.declared.tool.Tool.{Tool}
use Rattle.command_line.specs.declared.tool.Tool.TheVariants as tools
use Rattle.command_line.specs.Commands.{IsReadAs, command_of, first_number, given_steps, steps_from}
use Rattle.command_line.specs.Faults.{has_bad_number, is_repeated, is_surplus, is_unknown, lacks_value}
use Rattle.command_line.specs.Numbers.{decimal, is_number, leads_with_zero}
use Rattle.command_line.specs.Reading.{Wrong, command_read, first_kind, reading_by, scan, scan_by}
use Rattle.command_line.specs.Roles.{Role, is_empty, others, role}
use Rattle.command_line.specs.Tools.{needs_file, tool_of}
use Rattle.command_line.proofs.WholeLine.{Holds, reading_holds}
use Rattle.tool_cli.specs.Running.{StepsFit}

-- no more steps than a run may make
abbrev fits : Option ℕ → Bool
fits None = true
fits (Some n) = nat_le n (2 ^ 32)

last_of : (a b c d : Bool) → (a && b && (c && d)) ≡ true → d ≡ true
last_of a b c true e = refl
last_of true true true false e = absurd (true≢false (sym e))
last_of true true false false e = absurd (true≢false (sym e))
last_of true false c false e = absurd (true≢false (sym e))
last_of false b c false e = absurd (true≢false (sym e))

number_fits : (digits : List ℕ) → is_number digits ≡ true → nat_le (decimal digits) (2 ^ 32) ≡ true
number_fits digits e = last_of (not (length digits == 0)) (not (leads_with_zero digits)) (list_all is_ascii_digit digits) (nat_le (decimal digits) (2 ^ 32)) e

-- one value more
one_more : (vs : List (List ℕ)) (v : List ℕ) → fits (first_number vs) ≡ true → is_number v ≡ true → fits (first_number (vs ++ v ∷ [])) ≡ true
one_more [] v fit e = number_fits v e
one_more (w ∷ vs) v fit e = fit

role_fits : (r : Role) (before : List Role) → fits (given_steps before) ≡ true → has_bad_number r ≡ false → fits (given_steps (r ∷ before)) ≡ true
role_fits r before fit e = grind (arith, one_more)

-- a word without a fault has no bad number
no_kind : (unknown lacking bad : Bool) (rest : Option UsageKind) → cond unknown (Some UnknownOption) (cond lacking (Some MissingValue) (cond bad (Some BadNumber) rest)) ≡ None → bad ≡ false
no_kind true lacking bad rest e = absurd (let h = e in cc)
no_kind false true bad rest e = absurd (let h = e in cc)
no_kind false false true rest e = absurd (let h = e in cc)
no_kind false false false rest e = refl

by_end : (b : Bool) (wrong : Wrong) (before all : List Role) → cond b (Err wrong) (Ok before) ≡ Ok all → fits (given_steps before) ≡ true → fits (given_steps all) ≡ true
by_end true wrong before all e fit = absurd (let h = e in cc)
by_end false wrong before all e fit = (let same : before ≡ all = cc in subst (λ (rs : List Role). fits (given_steps rs) ≡ true) same fit)

by_word : (kind : Option UsageKind) (k : ℕ) (rest : Result (List Role) Wrong) (all : List Role) → scan_by kind k rest ≡ Ok all → (kind ≡ None) × (rest ≡ Ok all)
by_word None k rest all e = (refl, e)
by_word (Some kind) k rest all e = absurd (let h = e in cc)

-- where all words are read, the steps are a number that fits
scan_fits : (tool : Tool) (words : List (List ℕ)) (before all : List Role) → fits (given_steps before) ≡ true → scan tool before words ≡ Ok all → fits (given_steps all) ≡ true
unfolding scan
scan_fits tool [] before all fit e = by_end (needs_file tool && is_empty (others before)) (NoFile, 1 + length before) before all e fit
scan_fits tool (word ∷ words) before all fit e =
    let on = by_word (first_kind tool before (role tool before word) words) (1 + length before) (scan tool (role tool before word ∷ before) words) all e in
    scan_fits tool words (role tool before word ∷ before) all (role_fits (role tool before word) before fit (no_kind (is_unknown (role tool before word)) (lacks_value (role tool before word) words) (has_bad_number (role tool before word)) (cond (is_repeated before (role tool before word)) (Some Repeated) (cond (is_surplus tool before (role tool before word)) (Some TooManyFiles) None)) on.0)) on.1

steps_fit : (steps : Option ℕ) → fits steps ≡ true → steps_from steps ≤ 2 ^ 32
steps_fit None fit = omega arith
steps_fit (Some n) fit = leb-true n (2 ^ 32) fit

command_fits : (tool : Tool) (all : List Role) → fits (given_steps all) ≡ true → StepsFit (command_of tool all)
command_fits tools.Lli all fit = steps_fit (given_steps all) fit
command_fits tools.LlvmAs all fit = tt
command_fits tools.LlvmDis all fit = tt
command_fits tools.LlvmLink all fit = tt
command_fits tools.LlvmExtract all fit = tt
command_fits tools.LlvmBcanalyzer all fit = tt

given_fits : (words : List (List ℕ)) (tool : Tool) (command : Command) (given : Result (List Role) Wrong) → IsReadAs words command → scan tool [] (drop 1 words) ≡ given → Holds words (command_read tool given) → StepsFit command
given_fits words tool command (Ok all) read e holds =
    let same : command_of tool all ≡ command = (let one = holds.is in let other = read.is in cc) in
    subst (λ (c : Command). StepsFit c) same (command_fits tool all (scan_fits tool (drop 1 words) [] all refl e))
given_fits words tool command (Err (kind, k)) read e first = absurd (read.fine kind k first.is)

fits_by : (words : List (List ℕ)) (tool : Option Tool) (command : Command) → IsReadAs words command → Holds words (reading_by tool (drop 1 words)) → StepsFit command
fits_by words None command read first = absurd (read.fine NoTool 0 first.is)
fits_by words (Some tool) command read holds = given_fits words tool command (scan tool [] (drop 1 words)) read refl holds

pub words_fit : (words : List (List ℕ)) (command : Command) → IsReadAs words command → StepsFit command
words_fit words command read = fits_by words (tool_of words) command read (reading_holds words)
