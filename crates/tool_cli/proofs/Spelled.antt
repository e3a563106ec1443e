-- Bitcode, judged: what is told of it is its refusal, and what is accepted is no other module.
use Rattle.std.proofs.Common.{◌≡◌, ◌⊎◌, inl, inr, ℕ, List, [], ◌∷◌, Ok, Err, refl, sym, subst}
use Rattle.bit_tree.specs.Stream as stream
use Rattle.bit_tree.proofs.OneTree.{one_tree}
use Rattle.bitcode_read.specs.Answers.{IsReadFault}
use Rattle.command_line.specs.declared.command.Command.{Command}
use Rattle.command_line.specs.declared.command.Command.TheVariants.{Disassemble}
use Rattle.command_line.specs.declared.command.OutputName.{OutputName}
use Rattle.module_arena.specs.Module.{Module}
use Rattle.path_verify.specs.Verified.{Verifies}
use Rattle.record_read.specs.declared.fault.BitcodeFault.{BitcodeFault}
use Rattle.record_read.specs.declared.fault.BitcodeFault.TheVariants as faults
use Rattle.record_table.specs.Faults.{Answer, records}
use Rattle.record_table.specs.Records.{Spells, StandFor, read}
use Rattle.entry_verify.specs.declared.types.fault.VerifyFault.{VerifyFault}
use Rattle.entry_verify.specs.declared.types.fault.VerifyFault.TheVariants as verdicts
use Rattle.tool_output.specs.declared.ends.ended.Ended.{Ended}
use Rattle.tool_output.specs.declared.ends.ended.Ended.TheVariants.{Memory}
use Rattle.tool_output.specs.declared.ends.ended.Ended.TheVariants as ends
use Rattle.tool_output.specs.Written.{written}
use Rattle.tool_output.specs.declared.format.OutputFormat.TheVariants.{CanonicalText}
use Rattle.tool_cli.specs.Judged.{bitcode_told, verdict_told, IsBitcodeOf, IsBitcodeRefused}
use Rattle.tool_cli.specs.Made.{IsResult}
use Rattle.tool_cli.specs.Told.{IsWork}

-- ---- what is told

-- that the bytes spell nothing
pub bitcode_refused : (name bytes : List ℕ) (fault : BitcodeFault) (ended : Ended) → IsReadFault bytes fault → (ended ≡ bitcode_told name fault) ⊎ (ended ≡ Memory) → IsBitcodeRefused name bytes ended ⊎ (ended ≡ Memory)
bitcode_refused name bytes fault ended refused (inr none) = inr none
bitcode_refused name bytes faults.Memory ended refused (inl told) = inr told
bitcode_refused name bytes (faults.Bit bit) ended refused (inl told) = inl (inl (record { fault = faults.Bit bit; refused = refused; told = told }))
bitcode_refused name bytes faults.ForeignProducer ended refused (inl told) = inl (inl (record { fault = faults.ForeignProducer; refused = refused; told = told }))
bitcode_refused name bytes (faults.BadVersion version) ended refused (inl told) = inl (inl (record { fault = faults.BadVersion version; refused = refused; told = told }))
bitcode_refused name bytes (faults.UnknownRecord block code) ended refused (inl told) = inl (inl (record { fault = faults.UnknownRecord block code; refused = refused; told = told }))
bitcode_refused name bytes (faults.BadRecord block index rule) ended refused (inl told) = inl (inl (record { fault = faults.BadRecord block index rule; refused = refused; told = told }))

-- or that the module is refused that they spell
pub spelled_refused : (name bytes : List ℕ) (m : Module) (fault : VerifyFault) (ended : Ended) → Spells bytes m → Verifies {T = Unit {0}} m (Err fault) → (ended ≡ verdict_told name fault) ⊎ (ended ≡ Memory) → IsBitcodeRefused name bytes ended ⊎ (ended ≡ Memory)
spelled_refused name bytes m fault ended spells refused (inr none) = inr none
spelled_refused name bytes m verdicts.Memory ended spells refused (inl told) = inr told
spelled_refused name bytes m (verdicts.FunctionTooLarge function size) ended spells refused (inl told) =
    inl (inr (record { meant = m; spelled = spells; fault = verdicts.FunctionTooLarge function size; refused = refused; told = told }))
spelled_refused name bytes m (verdicts.Invalid rule entity) ended spells refused (inl told) =
    inl (inr (record { meant = m; spelled = spells; fault = verdicts.Invalid rule entity; refused = refused; told = told }))

-- ---- bytes spell one module

ok_same : (m n : Module) (answer : Answer Module) → answer ≡ Ok m → answer ≡ Ok n → m ≡ n
ok_same m n answer one other = cc

pub spells_once : (bytes : List ℕ) (m n : Module) → Spells bytes m → Spells bytes n → m ≡ n
spells_once bytes m n one other =
    ok_same m n (read (records one.tree)) one.stands (subst (λ (tree : stream.StreamTree). StandFor tree n) (sym (one_tree bytes one.tree other.tree one.is_tree other.is_tree)) other.stands)

-- ---- disassembling

pub disassemble_work : (name bytes : List ℕ) (place : OutputName) (m : Module) → IsBitcodeOf bytes m → IsWork (Disassemble name place) (bytes ∷ []) ends.Ok
disassemble_work name bytes place m is = inr (m, is, refl)

pub disassemble_result : (name bytes : List ℕ) (place : OutputName) (m : Module) → IsBitcodeOf bytes m → IsResult (Disassemble name place) (bytes ∷ []) (written CanonicalText m)
disassemble_result name bytes place m is = (m, is, refl)

pub disassemble_refused : (name bytes : List ℕ) (place : OutputName) (ended : Ended) → IsBitcodeRefused name bytes ended ⊎ (ended ≡ Memory) → IsWork (Disassemble name place) (bytes ∷ []) ended ⊎ (ended ≡ Memory)
disassemble_refused name bytes place ended (inl refused) = inl (inl refused)
disassemble_refused name bytes place ended (inr none) = inr none

-- what is said of the command that was disassembled, which has one input, is said of the command that it is
pub disassemble_is : (P : Command → List (List ℕ) → Type 0) (command : Command) (input : List ℕ) (place : OutputName) (texts : List (List ℕ)) (bytes : List ℕ) → command ≡ Disassemble input place → texts ≡ bytes ∷ [] → P (Disassemble input place) (bytes ∷ []) → P command texts
disassemble_is P command input place texts bytes is one said =
    subst (λ (ts : List (List ℕ)). P command ts) (sym one) (subst (λ (c : Command). P c (bytes ∷ [])) (sym is) said)
