-- Where a command has a result, its end is `Ok`.
use Rattle.std.proofs.Common.{◌≡◌, ◌⊎◌, inl, inr, ℕ, List, [], ◌∷◌, None, Result, Ok, refl, sym, ap, subst}
use Rattle.command_line.specs.declared.command.Command.{Command}
use Rattle.command_line.specs.declared.command.Command.TheVariants.{Assemble, Disassemble, Link, Extract, Lli, Analyze}
use Rattle.ir_base.specs.Files.{Named}
use Rattle.module_arena.specs.Module.{Module}
use Rattle.tool_output.specs.declared.ends.ended.Ended.{Ended}
use Rattle.tool_output.specs.declared.ends.ended.Ended.TheVariants as ends
use Rattle.tool_cli.specs.Judged.{AreAccepted}
use Rattle.tool_cli.specs.Made.{AreParts, IsResult}
use Rattle.tool_cli.specs.Told.{part_end, HasResult, IsEndOf, IsOutcome, IsTold}
use Rattle.tool_cli.proofs.Linked.{part_accepted, parts_linking}
use Rattle.tool_cli.proofs.OneEnd.{complete_by}

-- inputs that stand for parts are accepted
parts_accepted : (texts : List (List ℕ)) (parts : List Module) → AreParts texts parts → AreAccepted texts
parts_accepted [] parts are = tt
parts_accepted (text ∷ texts) [] are = absurd are
parts_accepted (text ∷ texts) (m ∷ parts) are = (part_accepted text m are.0, parts_accepted texts parts are.1)

result_end : (command : Command) (stdin : List ℕ) (texts : List (List ℕ)) (bytes : List ℕ) → IsResult command texts bytes → IsEndOf command stdin texts ends.Ok
result_end (Assemble input output) stdin (text ∷ []) bytes is = inr (is.0, is.1, refl)
result_end (Assemble input output) stdin texts bytes is = absurd is
result_end (Disassemble input output) stdin (stream ∷ []) bytes is = inr (is.0, is.1, refl)
result_end (Disassemble input output) stdin texts bytes is = absurd is
result_end (Link inputs output text) stdin texts bytes is =
    let links = is.1 in
    parts_linking inputs texts links.parts (parts_accepted texts links.parts links.are_parts) links.are_parts links.linked.agree links.linked.few
result_end (Extract input output text selection) stdin (stream ∷ []) bytes is = inr (is.1.whole, is.1.is_part, ap part_end (sym is.1.there))
result_end (Extract input output text selection) stdin texts bytes is = absurd is
result_end (Analyze input dump) stdin (stream ∷ []) bytes is = inl (is.0, is.1, refl)
result_end (Analyze input dump) stdin texts bytes is = absurd is
result_end (Lli input bound words) stdin texts bytes is = absurd is

pub result_told : (words : List (List ℕ)) (files : Named) (stdin : List ℕ) → HasResult words files stdin → IsTold words files stdin ends.Ok
result_told words files stdin has =
    let P : Result (List (List ℕ)) Ended → Type 0 = λ r. IsOutcome has.command stdin r ends.Ok in
    inr (has.command, has.read, subst P (sym has.given) (result_end has.command stdin has.texts has.bytes has.is))

-- so a run that did not stop ends with that
pub succeeds_by : (words : List (List ℕ)) (files : Named) (stdin : List ℕ) (ended : Ended) {stopped : Type 0} → IsTold words files stdin ended ⊎ stopped → HasResult words files stdin → (ended ≡ ends.Ok) ⊎ stopped
succeeds_by words files stdin ended told has = complete_by words files stdin ended told ends.Ok (result_told words files stdin has)
