-- The work of a command that has a result: it writes nothing, or its result is delivered.
use Rattle.std.proofs.Common.{◌≡◌, ◌⊎◌, inl, inr, ℕ, ◌<◌, List, Option, Some, refl, sym, subst, arith}
use Rattle.ir_base.specs.Outside.{Rose}
use Rattle.command_line.specs.declared.command.Command.{Command}
use Rattle.command_line.specs.declared.command.OutputName.{OutputName}
use Rattle.tool_output.specs.declared.ends.ended.Ended.{Ended}
use Rattle.tool_output.specs.declared.ends.ended.Ended.TheVariants.{CannotWrite, Memory}
use Rattle.tool_output.specs.declared.ends.ended.Ended.TheVariants as ends
use Rattle.tool_output.specs.Outputs.{outputs}
use Rattle.tool_cli.specs.Done.{IsDone, LeavesSinks}
use Rattle.tool_cli.specs.Made.{IsResult}
use Rattle.tool_cli.specs.Output.{output_of, Delivers, FailsToWrite, LeavesStandard}
use Rattle.tool_cli.specs.Told.{IsOfTexts, IsWork}
use Rattle.tool_cli.specs.World.{Sinks}
use Rattle.tool_cli.proofs.Delivered.{delivered_of_work, delivered_work, leaves_none, result_written, silent_written}
use Rattle.tool_cli.proofs.Works.{texts_of_work, texts_written}

-- nothing was written, and no write is told that failed
pub leaves_same : {O F : Type 0} (place : Option OutputName) (same : Sinks O F) (ended : Ended) → ((name : List ℕ) → ended ≡ CannotWrite name → ⊥) → LeavesSinks place same same ended
leaves_same place same ended never = record {
  cannot_write = λ name told. absurd (never name told);
  output_fault = λ (rose : same.output_faults < same.output_faults). absurd (omega (arith, rose));
  write_fault = λ (rose : same.write_faults < same.write_faults). absurd (omega (arith, rose));
  files = leaves_none place ended same.contents same.read_faults same.write_faults;
  reads = refl;
  files_unwritten = λ early. refl;
}

-- want of memory is no end of its own
or_memory : (command : Command) (texts : List (List ℕ)) (o w : Type 0) (ended : Ended) → IsWork command texts ended ⊎ (ended ≡ Memory) → IsWork command texts ended ⊎ FailsToWrite (output_of command) o w ended
or_memory command texts o w ended (inl work) = inl work
or_memory command texts o w ended (inr none) = inr (subst (λ (e : Ended). FailsToWrite (output_of command) o w e) (sym none) tt)

-- the inputs are refused, or memory ran out before anything was written
pub refused_done : {O F : Type 0} (command : Command) (texts : List (List ℕ)) (same : Sinks O F) (ended : Ended) → IsWork command texts ended ⊎ (ended ≡ Memory) → IsOfTexts ended → IsDone command texts same same ended
refused_done command texts same ended refused of = record {
  work = or_memory command texts (Rose same.output_faults same.output_faults) (Rose same.write_faults same.write_faults) ended refused;
  of_work = texts_of_work ended of;
  written = silent_written command texts (outputs same.taken same.contents) (outputs same.taken same.contents) ended of refl;
  leaves = leaves_same (output_of command) same ended (texts_written ended of);
  unwritten = λ early. refl;
}

-- the result was delivered, or a write of it failed
pub delivered_done : {O F : Type 0} (command : Command) (texts : List (List ℕ)) (place : OutputName) (bytes : List ℕ) (before now : Sinks O F) (ended : Ended) → output_of command ≡ Some place → IsWork command texts ends.Ok → IsResult command texts bytes → Delivers place bytes (outputs before.taken before.contents) (outputs now.taken now.contents) ended → LeavesSinks (Some place) before now ended → (LeavesStandard (Some place) ended → now.output ≡ before.output) → IsDone command texts before now ended
delivered_done command texts place bytes before now ended goes work result delivered leaves unwritten =
    let o = Rose before.output_faults now.output_faults in
    let w = Rose before.write_faults now.write_faults in
    let old = outputs before.taken before.contents in
    let new = outputs now.taken now.contents in
    record {
      work = subst (λ (output : Option OutputName). IsWork command texts ended ⊎ FailsToWrite output o w ended) (sym goes) (delivered_work command texts place bytes old new o w ended work delivered leaves.cannot_write);
      of_work = delivered_of_work place bytes old new ended delivered;
      written = result_written command texts place bytes old new ended goes result delivered;
      leaves = subst (λ (output : Option OutputName). LeavesSinks output before now ended) (sym goes) leaves;
      unwritten = subst (λ (output : Option OutputName). LeavesStandard output ended → now.output ≡ before.output) (sym goes) unwritten;
    }
