-- Ends of extraction.
use Rattle.std.proofs.Common.{◌≡◌, ◌⊎◌, inl, inr, ℕ, Bool, List, [], ◌∷◌, Some, None, Result, Ok, Err, refl, sym, ap, ◌∙◌, subst}
use Rattle.std.specs.Prelude.{IfOk, IfErr, OnOk}
use Rattle.command_line.specs.declared.command.Command.{Command}
use Rattle.command_line.specs.declared.command.Command.TheVariants.{Extract}
use Rattle.command_line.specs.declared.command.OutputName.{OutputName}
use Rattle.command_line.specs.declared.command.SelectionWords as words
use Rattle.extract_rules.specs.Extracted.{Extracted}
use Rattle.extract_rules.specs.Faults.{HasFault}
use Rattle.extract_rules.specs.Selected.{no_such_symbol}
use Rattle.extract_rules.specs.declared.selection.ExtractFault.{ExtractFault}
use Rattle.extract_rules.specs.declared.selection.ExtractFault.TheVariants as faults
use Rattle.extract_rules.specs.declared.selection.Selection.{Selection}
use Rattle.module_arena.specs.Lists.{Lists}
use Rattle.module_arena.specs.Module.{Module}
use Rattle.module_arena.specs.View.{module_of}
use Rattle.name_rules.specs.Spelled.{spelled_global}
use Rattle.tool_output.specs.declared.ends.ended.Ended.{Ended}
use Rattle.tool_output.specs.declared.ends.ended.Ended.TheVariants.{NoSuchSymbol, Memory}
use Rattle.tool_output.specs.declared.ends.ended.Ended.TheVariants as ends
use Rattle.tool_output.specs.Written.{written}
use Rattle.tool_cli.specs.Made.{ExtractsTo, IsPart, IsResult, format_of, selection_of}
use Rattle.tool_cli.specs.Told.{part_end, IsExtraction, IsWork}

-- An input that stands for a module.

-- a module in which a selected name is not there
missing_unextracted : (name bytes : List ℕ) (selection : words.SelectionWords) (m : Module) (ended : Ended) → IsPart bytes m → (ended ≡ part_end (no_such_symbol m (selection_of selection))) ⊎ (ended ≡ Memory) → IsExtraction name selection bytes ended ⊎ (ended ≡ Memory)
missing_unextracted name bytes selection m ended is (inl told) = inl (inr (m, is, told))
missing_unextracted name bytes selection m ended is (inr none) = inr none

-- what is found: a part, or an end
pub found_extracted : (bytes : List ℕ) (selection : words.SelectionWords) (m : Module) (found : Result Lists Ended) → IsPart bytes m → OnOk found (no_such_symbol m (selection_of selection) ≡ None) → IfOk found (λ part. module_of part ≡ Extracted m (selection_of selection)) → IfOk found (λ part. ExtractsTo bytes selection (module_of part))
found_extracted bytes selection m (Ok part) is there extracted = record { whole = m; is_part = is; there = there; extracted = extracted }
found_extracted bytes selection m (Err ended) is there extracted = tt

pub found_unextracted : (name bytes : List ℕ) (selection : words.SelectionWords) (m : Module) (found : Result Lists Ended) → IsPart bytes m → IfErr found (λ ended. (ended ≡ part_end (no_such_symbol m (selection_of selection))) ⊎ (ended ≡ Memory)) → IfErr found (λ ended. IsExtraction name selection bytes ended ⊎ (ended ≡ Memory))
found_unextracted name bytes selection m (Ok part) is missing = tt
found_unextracted name bytes selection m (Err ended) is missing = missing_unextracted name bytes selection m ended is missing

-- What the words select, taken of a module.

pub taken_there : (m : Module) (s t : Selection) → s ≡ t → no_such_symbol m s ≡ None → no_such_symbol m t ≡ None
taken_there m s t taken there = subst (λ (x : Selection). no_such_symbol m x ≡ None) taken there

pub taken_part : (m part : Module) (s t : Selection) → s ≡ t → part ≡ Extracted m s → part ≡ Extracted m t
taken_part m part s t taken is = subst (λ (x : Selection). part ≡ Extracted m x) taken is

-- the name that is told
pub taken_missing : (m : Module) (s t : Selection) (fault : ExtractFault) (symbol : List ℕ) (ended : Ended) → s ≡ t → fault ≡ faults.NoSuchSymbol symbol → HasFault m s fault → (ended ≡ NoSuchSymbol (spelled_global symbol)) ⊎ (ended ≡ Memory) → (ended ≡ part_end (no_such_symbol m t)) ⊎ (ended ≡ Memory)
taken_missing m s t fault symbol ended taken is has (inl told) =
    let missing : no_such_symbol m s ≡ Some symbol = subst (λ (f : ExtractFault). HasFault m s f) is has in
    let there : no_such_symbol m t ≡ Some symbol = subst (λ (x : Selection). no_such_symbol m x ≡ Some symbol) taken missing in
    inl (told ∙ ap part_end (sym there))
taken_missing m s t fault symbol ended taken is has (inr none) = inr none

-- The command.

pub extract_work : (name bytes : List ℕ) (place : OutputName) (text : Bool) (selection : words.SelectionWords) (part : Module) → ExtractsTo bytes selection part → IsWork (Extract name place text selection) (bytes ∷ []) ends.Ok
extract_work name bytes place text selection part e = inr (e.whole, e.is_part, ap part_end (sym e.there))

pub extract_result : (name bytes : List ℕ) (place : OutputName) (text : Bool) (selection : words.SelectionWords) (part : Module) → ExtractsTo bytes selection part → IsResult (Extract name place text selection) (bytes ∷ []) (written (format_of text) part)
extract_result name bytes place text selection part e = (part, e, refl)

-- what is said of the command that was done, which has one input, is said of the command that it is
pub extract_is : (P : Command → List (List ℕ) → Type 0) (command : Command) (input : List ℕ) (place : OutputName) (text : Bool) (selection : words.SelectionWords) (texts : List (List ℕ)) (bytes : List ℕ) → command ≡ Extract input place text selection → texts ≡ bytes ∷ [] → P (Extract input place text selection) (bytes ∷ []) → P command texts
extract_is P command input place text selection texts bytes is one said =
    subst (λ (ts : List (List ℕ)). P command ts) (sym one) (subst (λ (c : Command). P c (bytes ∷ [])) (sym is) said)
