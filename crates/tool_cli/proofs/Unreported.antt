-- Want of memory is no end that the words have: a run that ends so has stopped.
use Rattle.std.proofs.Common.{◌≡◌, ◌⊎◌, inl, inr, ℕ, ◌+◌, Bool, true, false, List, [], ◌∷◌, cond, length, Option, Some, None, Result, Ok, Err, sym, ap, ◌∙◌, subst}
use Rattle.std.specs.Prelude.{filter_map, nat_lt, nat_le}
use Rattle.command_line.specs.declared.command.Command.{Command}
use Rattle.command_line.specs.declared.command.Command.TheVariants.{Assemble, Disassemble, Link, Extract, Lli, Analyze}
use Rattle.entry_verify.specs.declared.types.fault.VerifyFault.{VerifyFault}
use Rattle.entry_verify.specs.declared.types.fault.VerifyFault.TheVariants as verdicts
use Rattle.ir_base.specs.Files.{Named}
use Rattle.ir_base.specs.declared.place.Place.{Place}
use Rattle.ir_lexer.specs.Ahead.{Located}
use Rattle.ir_syntax.specs.Answers.{HasItems}
use Rattle.ir_syntax.specs.Refusal.{IsRefused}
use Rattle.ir_syntax.specs.Tree.{ItemTree}
use Rattle.ir_syntax.specs.declared.read.SyntaxFault.{SyntaxFault}
use Rattle.ir_syntax.specs.declared.read.SyntaxFault.TheVariants as faults
use Rattle.linkage_rules.specs.Conflicts.{FoundConflict, first_conflict}
use Rattle.link_rules.specs.Counts.{Count, too_many}
use Rattle.extract_rules.specs.Selected.{no_such_symbol}
use Rattle.module_arena.specs.Module.{Module}
use Rattle.module_arena.specs.declared.fault.CountKind.{CountKind}
use Rattle.module_arena.specs.declared.fault.CountKind.TheVariants as kinds
use Rattle.module_arena.specs.Known.{counted_aliases}
use Rattle.module_arena.proofs.Found.{none≢some}
use Rattle.name_rules.specs.Breaks.{demands, first_break, most, no_more, too_many as too_many_in}
use Rattle.name_rules.specs.Demand.{Demand, first_refusal, first_there}
use Rattle.name_rules.specs.ModuleOf.{alias_in, function_in, structs_in, variable_in}
use Rattle.name_rules.specs.Places.Places.{InOrder, place_of_refusal}
use Rattle.name_rules.specs.declared.fault.ResolveFault.{ResolveFault}
use Rattle.name_rules.specs.declared.fault.ResolveFault.TheVariants as breaks
use Rattle.name_rules.proofs.OnPlaces.Items.{in_order}
use Rattle.record_read.specs.declared.fault.BitcodeFault.{BitcodeFault}
use Rattle.record_read.specs.declared.fault.BitcodeFault.TheVariants as bitcode_faults
use Rattle.run_rules.specs.declared.end.End.{End}
use Rattle.run_rules.specs.Played.Played.{outcome_of}
use Rattle.tool_output.specs.declared.ends.ended.Ended.{Ended}
use Rattle.tool_output.specs.declared.ends.ended.Ended.TheVariants.{InputTooLarge, Memory}
use Rattle.tool_cli.specs.Analyzed.{IsAnalysis}
use Rattle.tool_cli.specs.Inputs.{alone, content, input_read, inputs_of, read_on, stdin_after, texts_read, together, with_text}
use Rattle.tool_cli.specs.Judged.{bitcode_told, break_told, is_bitcode, refusal_told, verdict_told, IsBitcodeFault, IsBitcodeRefused, IsFirstRefusal, IsPartRefused, IsTextRefused, IsVerdict}
use Rattle.tool_cli.specs.Made.{selection_of}
use Rattle.tool_cli.specs.Running.{end_told, program_input, program_of}
use Rattle.tool_cli.specs.Told.{link_end, part_end, IsEndOf, IsLinking, IsOutcome, IsTold}
use Rattle.tool_cli.specs.declared.inputs.TheConstants.{LARGEST, LARGEST_TOGETHER}
use Rattle.tool_cli.proofs.Headline.{two_by}
use Rattle.tool_cli.proofs.Programs.{IsEnd, told_is_end}

-- ---- reading

-- a refusal that is no want of memory
abbrev IsFine : {A : Type 0} → Result A Ended → Type 0
IsFine (Ok x) = Unit {0}
IsFine (Err Memory) = ⊥
IsFine (Err ended) = Unit {0}

alone_fine : (name : List ℕ) (held : Option (List ℕ)) → IsFine (alone name held)
alone_fine name None = tt
alone_fine name (Some text) = by (nat_lt LARGEST (length text))
  where
    by : (large : Bool) → IsFine {A = List ℕ} (cond large (Err (InputTooLarge name LARGEST)) (Ok text))
    by true = tt
    by false = tt

together_fine : (name : List ℕ) (before : ℕ) (given : Result (List ℕ) Ended) → IsFine given → IsFine (together name before given)
together_fine name before (Err ended) fine = fine
together_fine name before (Ok text) fine = by (nat_lt LARGEST_TOGETHER (before + length text))
  where
    by : (large : Bool) → IsFine {A = List ℕ} (cond large (Err (InputTooLarge name LARGEST_TOGETHER)) (Ok text))
    by true = tt
    by false = tt

input_fine : (files : Named) (stdin : List ℕ) (before : ℕ) (name : List ℕ) → IsFine (input_read files stdin before name)
unfolding input_read
input_fine files stdin before name = together_fine name before (alone name (content files stdin name)) (alone_fine name (content files stdin name))

with_fine : (text : List ℕ) (others : Result (List (List ℕ)) Ended) → IsFine others → IsFine (with_text text others)
with_fine text (Ok texts) fine = tt
with_fine text (Err ended) fine = fine

read_on_fine : (given : Result (List ℕ) Ended) (others : List ℕ → Result (List (List ℕ)) Ended) → IsFine given → ((text : List ℕ) → IsFine (others text)) → IsFine (read_on given others)
read_on_fine (Ok text) others fine each = with_fine text (others text) (each text)
read_on_fine (Err ended) others fine each = fine

texts_fine : (files : Named) (stdin : List ℕ) (before : ℕ) (names : List (List ℕ)) → IsFine (texts_read files stdin before names)
texts_fine files stdin before [] = tt
texts_fine files stdin before (name ∷ names) =
    read_on_fine (input_read files stdin before name) (λ text. texts_read files (stdin_after stdin name) (before + length text) names)
    (input_fine files stdin before name) (λ text. texts_fine files (stdin_after stdin name) (before + length text) names)

-- ---- the refusal of a text

refused_unwanted : (name text : List ℕ) (fault : SyntaxFault) → IsRefused text fault → Memory ≡ refusal_told name fault → ⊥
refused_unwanted name text (faults.BadByte place) refused e = cc
refused_unwanted name text (faults.NoItemHere place) refused e = cc
refused_unwanted name text (faults.LeftOutWord place word) refused e = cc
refused_unwanted name text (faults.TooDeep place) refused e = cc
refused_unwanted name text faults.Memory refused e = refused

one_unwanted : (holds : Bool) (refusal : ResolveFault) (further : Option ResolveFault) (place : Place) → place_of_refusal refusal ≡ Some place → (further ≡ Some breaks.Memory → ⊥)
    → elim holds [ true ↦ further | false ↦ Some refusal ] ≡ Some breaks.Memory → ⊥
one_unwanted true refusal further place stands later e = later e
one_unwanted false refusal further place stands later e = (let same : refusal ≡ breaks.Memory = cc in none≢some (sym (ap place_of_refusal same) ∙ stands))

demands_unwanted : (tokens : List Located) (ds : List Demand) → InOrder tokens ds → first_refusal ds ≡ Some breaks.Memory → ⊥
demands_unwanted tokens [] order e = none≢some e
demands_unwanted tokens (d ∷ ds) order e =
    one_unwanted d.holds d.refusal (first_refusal ds) order.1.place order.4 (λ later. demands_unwanted (order.1 ∷ order.2) ds order.5 later) e

counted_unwanted : (few : Bool) (kind : CountKind) (count : ℕ) (further : Option ResolveFault) → (further ≡ Some breaks.Memory → ⊥)
    → elim few [ true ↦ further | false ↦ Some (breaks.TooMany kind count) ] ≡ Some breaks.Memory → ⊥
counted_unwanted true kind count further later e = later e
counted_unwanted false kind count further later e = cc

count_unwanted : (kind : CountKind) (count : ℕ) (further : Option ResolveFault) → (further ≡ Some breaks.Memory → ⊥) → no_more kind count further ≡ Some breaks.Memory → ⊥
count_unwanted kind count further later e = counted_unwanted (nat_le count most) kind count further later e

counts_unwanted : (structs variables functions aliases : ℕ) → no_more kinds.Structs structs (no_more kinds.Variables variables (no_more kinds.Functions functions (no_more kinds.Aliases aliases None))) ≡ Some breaks.Memory → ⊥
counts_unwanted structs variables functions aliases e =
    count_unwanted kinds.Structs structs (no_more kinds.Variables variables (no_more kinds.Functions functions (no_more kinds.Aliases aliases None)))
    (λ f. count_unwanted kinds.Variables variables (no_more kinds.Functions functions (no_more kinds.Aliases aliases None))
    (λ g. count_unwanted kinds.Functions functions (no_more kinds.Aliases aliases None) (λ h. count_unwanted kinds.Aliases aliases None none≢some h) g) f) e

there_unwanted : (one other : Option ResolveFault) → (one ≡ Some breaks.Memory → ⊥) → (other ≡ Some breaks.Memory → ⊥) → first_there one other ≡ Some breaks.Memory → ⊥
there_unwanted None other none later e = later e
there_unwanted (Some fault) other none later e = none e

break_unwanted : (text : List ℕ) (items : List ItemTree) → HasItems text items → first_break items ≡ Some breaks.Memory → ⊥
break_unwanted text items has e =
    let variables = length (filter_map variable_in items) in
    let functions = length (filter_map function_in items) in
    let aliases = counted_aliases (length (filter_map alias_in items)) variables functions in
    there_unwanted (too_many_in items) (first_refusal (demands items)) (counts_unwanted (length (structs_in items)) variables functions aliases)
    (demands_unwanted _ (demands items) (in_order text items has)) e

broken_unwanted : (name text : List ℕ) (items : List ItemTree) (fault : ResolveFault) → HasItems text items → first_break items ≡ Some fault → Memory ≡ break_told name fault → ⊥
broken_unwanted name text items breaks.Memory has breaks e = break_unwanted text items has breaks
broken_unwanted name text items fault has breaks e = cc

verdict_unwanted : (name : List ℕ) (m : Module) (fault : VerifyFault) → IsVerdict m fault → Memory ≡ verdict_told name fault → ⊥
verdict_unwanted name m (verdicts.FunctionTooLarge function size) refused e = cc
verdict_unwanted name m (verdicts.Invalid rule entity) refused e = cc
verdict_unwanted name m verdicts.Memory refused e = refused

text_unwanted : (name text : List ℕ) → IsTextRefused name text Memory → ⊥
text_unwanted name text (inl none) = refused_unwanted name text none.fault none.refused none.told
text_unwanted name text (inr (inl none)) = broken_unwanted name text none.items none.fault none.has_items none.breaks none.told
text_unwanted name text (inr (inr bad)) = verdict_unwanted name bad.meant bad.fault bad.refused bad.told

-- ---- the refusal of other inputs

spelled_unwanted : (name bytes : List ℕ) (fault : BitcodeFault) → IsBitcodeFault bytes fault → Memory ≡ bitcode_told name fault → ⊥
spelled_unwanted name bytes bitcode_faults.Memory refused e = refused
spelled_unwanted name bytes fault refused e = cc

bitcode_unwanted : (name bytes : List ℕ) → IsBitcodeRefused name bytes Memory → ⊥
bitcode_unwanted name bytes (inl none) = spelled_unwanted name bytes none.fault none.refused none.told
bitcode_unwanted name bytes (inr bad) = verdict_unwanted name bad.meant bad.fault bad.refused bad.told

part_unwanted : (name bytes : List ℕ) → IsPartRefused name bytes Memory → ⊥
part_unwanted name bytes refused =
    two_by (is_bitcode bytes) (IsBitcodeRefused name bytes Memory) (IsTextRefused name bytes Memory) (IsBitcodeRefused name bytes Memory) (IsTextRefused name bytes Memory) ⊥
    (λ r _. bitcode_unwanted name bytes r) (λ r _. text_unwanted name bytes r) refused refused

first_unwanted : (names texts : List (List ℕ)) → IsFirstRefusal names texts Memory → ⊥
first_unwanted [] [] refused = refused
first_unwanted [] (text ∷ texts) refused = refused
first_unwanted (name ∷ names) [] refused = refused
first_unwanted (name ∷ names) (text ∷ texts) (inl refused) = part_unwanted name text refused
first_unwanted (name ∷ names) (text ∷ texts) (inr later) = first_unwanted names texts later.1

-- ---- the end of a command

linked_unwanted : (names : List (List ℕ)) (conflict : Option FoundConflict) (count : Option Count) → Memory ≡ link_end names conflict count → ⊥
linked_unwanted names (Some conflict) count e = cc
linked_unwanted names None (Some count) e = cc
linked_unwanted names None None e = cc

linking_unwanted : (names texts : List (List ℕ)) → IsLinking names texts Memory → ⊥
linking_unwanted names texts (inl refused) = first_unwanted names texts refused
linking_unwanted names texts (inr by) = linked_unwanted names (first_conflict by.1.parts) (too_many by.1.parts) by.1.told

extracted_unwanted : (missing : Option (List ℕ)) → Memory ≡ part_end missing → ⊥
extracted_unwanted None e = cc
extracted_unwanted (Some name) e = cc

program_unwanted : (end : End) → Memory ≡ end_told end → ⊥
program_unwanted end e = subst (λ (x : Ended). IsEnd x) (sym e) (told_is_end end)

command_unwanted : (command : Command) (stdin : List ℕ) (texts : List (List ℕ)) → IsEndOf command stdin texts Memory → ⊥
command_unwanted (Lli input bound words) stdin (bytes ∷ []) (inl refused) = part_unwanted input bytes refused
command_unwanted (Lli input bound words) stdin (bytes ∷ []) (inr run) = program_unwanted (outcome_of (program_of bound words run.0) (program_input input stdin)).end run.2
command_unwanted (Lli input bound words) stdin texts is = is
command_unwanted (Assemble input output) stdin (text ∷ []) (inl refused) = text_unwanted input text refused
command_unwanted (Assemble input output) stdin (text ∷ []) (inr is) = let e = is.2 in cc
command_unwanted (Assemble input output) stdin texts is = is
command_unwanted (Disassemble input output) stdin (bytes ∷ []) (inl refused) = bitcode_unwanted input bytes refused
command_unwanted (Disassemble input output) stdin (bytes ∷ []) (inr is) = let e = is.2 in cc
command_unwanted (Disassemble input output) stdin texts is = is
command_unwanted (Analyze input dump) stdin (bytes ∷ []) (inl is) = let e = is.2 in cc
command_unwanted (Analyze input dump) stdin (bytes ∷ []) (inr refused) = let e = refused.2 in cc
command_unwanted (Analyze input dump) stdin texts is = is
command_unwanted (Extract input output text selection) stdin (bytes ∷ []) (inl refused) = part_unwanted input bytes refused
command_unwanted (Extract input output text selection) stdin (bytes ∷ []) (inr is) = extracted_unwanted (no_such_symbol is.0 (selection_of selection)) is.2
command_unwanted (Extract input output text selection) stdin texts is = is
command_unwanted (Link inputs output text) stdin texts is = linking_unwanted inputs texts is

outcome_unwanted : (command : Command) (stdin : List ℕ) (given : Result (List (List ℕ)) Ended) → IsFine given → IsOutcome command stdin given Memory → ⊥
outcome_unwanted command stdin (Ok texts) fine is = command_unwanted command stdin texts is
outcome_unwanted command stdin (Err refusal) fine is = subst (λ (x : Ended). IsFine {A = List (List ℕ)} (Err x)) (sym is) fine

pub memory_untold : (words : List (List ℕ)) (files : Named) (stdin : List ℕ) → IsTold words files stdin Memory → ⊥
memory_untold words files stdin (inl usage) = let e = usage.1.2 in cc
memory_untold words files stdin (inr told) = outcome_unwanted told.0 stdin (texts_read files stdin 0 (inputs_of told.0)) (texts_fine files stdin 0 (inputs_of told.0)) told.2
