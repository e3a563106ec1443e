-- What writing a result leaves, and how its end is told.
use Rattle.std.proofs.Common.{◌≡◌, ◌⊎◌, inl, inr, ℕ, ◌≤◌, ◌<◌, List, [], ◌∷◌, take, codes, Bool, true, false, Option, Some, None, Ok, Err, refl, sym, ap, ◌∙◌, subst, arith}
use Rattle.ir_base.specs.Outside.{Rose}
use Rattle.ir_base.specs.Files.{Named, HoldsFront}
use Rattle.command_line.specs.declared.command.Command.{Command}
use Rattle.command_line.specs.declared.command.Command.TheVariants.{Assemble, Link}
use Rattle.command_line.specs.declared.command.OutputName.{OutputName}
use Rattle.command_line.specs.declared.command.OutputName.TheVariants.{Standard, File}
use Rattle.ir_syntax.specs.Tree.{ItemTree}
use Rattle.module_arena.specs.Module.{Module}
use Rattle.tool_output.specs.Outputs.{Outputs, is_standard, told_name, IsPut, IsPartlyPut}
use Rattle.tool_output.specs.Writing.{Puts, Counts}
use Rattle.tool_output.specs.Written.{written}
use Rattle.tool_output.specs.declared.format.OutputFormat.TheVariants.{Bitcode}
use Rattle.tool_output.specs.declared.fault.OutputFault.{OutputFault}
use Rattle.tool_output.specs.declared.fault.OutputFault.TheVariants as fault
use Rattle.tool_output.specs.declared.ends.ended.Ended.{Ended}
use Rattle.tool_output.specs.declared.ends.ended.Ended.TheVariants.{CannotWrite, Memory}
use Rattle.tool_output.specs.declared.ends.ended.Ended.TheVariants as ends
use Rattle.tool_cli.specs.Judged.{IsTextRefused, IsTextOf}
use Rattle.tool_cli.specs.Made.{LinksTo, AssemblesTo, IsResult, format_of}
use Rattle.tool_cli.specs.Output.{output_of, IsUnwritten, FailsToWrite, IsFileUnwritten, IsBeforeWriting, LeavesStandard, LeavesNamed, KeepsOthers, KeepsFiles, LeavesFilesBut, Delivers, IsWritten}
use Rattle.tool_cli.specs.Reads.{LeavesFiles}
use Rattle.tool_cli.specs.Told.{IsWork, IsOfTexts, IsOfWork}

-- Counts.

same_less : (a b : ℕ) → b ≡ a → a < b → ⊥
same_less a b e h = omega (arith, e, h)

-- a write that failed, with the name that is told
pub failed_put : (place : OutputName) (name bytes : List ℕ) (before now : Outputs) (given : OutputFault) → given ≡ fault.CannotWrite name → Puts place bytes before now (Err given) → (name ≡ told_name place) × IsPartlyPut place bytes before now
failed_put place name bytes before now given is put = subst (λ (f : OutputFault). Puts place bytes before now (Err f)) is put

pub failed_counts : (place : OutputName) (name : List ℕ) (so sn fo fn : ℕ) (given : OutputFault) → given ≡ fault.CannotWrite name → Counts place so sn fo fn (Err given) → Counts place so sn fo fn (Err (fault.CannotWrite name))
failed_counts place name so sn fo fn given is counts = subst (λ (f : OutputFault). Counts place so sn fo fn (Err f)) is counts

-- a write that memory was wanting for
pub unput : (place : OutputName) (bytes : List ℕ) (before now : Outputs) (given : OutputFault) → given ≡ fault.Memory → Puts place bytes before now (Err given) → now ≡ before
unput place bytes before now given is put = subst (λ (f : OutputFault). Puts place bytes before now (Err f)) is put

pub unput_counts : (place : OutputName) (so sn fo fn : ℕ) (given : OutputFault) → given ≡ fault.Memory → Counts place so sn fo fn (Err given) → Counts place so sn fo fn (Err fault.Memory)
unput_counts place so sn fo fn given is counts = subst (λ (f : OutputFault). Counts place so sn fo fn (Err f)) is counts

-- where a write failed, it is told by the name of the output, whose count rose
pub unwritten_here : (place : OutputName) (name : List ℕ) (so sn fo fn : ℕ) → name ≡ told_name place → Counts place so sn fo fn (Err (fault.CannotWrite name)) → IsUnwritten (Some place) (Rose so sn) (Rose fo fn) name
unwritten_here Standard name so sn fo fn e counts = (e, counts.0)
unwritten_here (File file) name so sn fo fn e counts = (e, counts.1.0)

pub sink_unwritten : (place : OutputName) (name : List ℕ) (so sn fo fn : ℕ) → name ≡ told_name place → Counts place so sn fo fn (Err (fault.CannotWrite name)) → so < sn → name ≡ codes "-"
sink_unwritten Standard name so sn fo fn e counts h = e
sink_unwritten (File file) name so sn fo fn e counts h = absurd (same_less so sn counts.0 h)

pub file_unwritten : (place : OutputName) (name : List ℕ) (so sn fo fn : ℕ) → name ≡ told_name place → Counts place so sn fo fn (Err (fault.CannotWrite name)) → fo < fn → IsFileUnwritten (Some place) (CannotWrite name)
file_unwritten Standard name so sn fo fn e counts h = absurd (same_less fo fn counts.1 h)
file_unwritten (File file) name so sn fo fn e counts h = ap CannotWrite e

pub told_unwritten : (output : Option OutputName) (o w : Type 0) (name : List ℕ) → IsUnwritten output o w name → (other : List ℕ) → CannotWrite name ≡ CannotWrite other → IsUnwritten output o w other
told_unwritten output o w name cause other e = (let same : name ≡ other = cc in subst (λ (n : List ℕ). IsUnwritten output o w n) same cause)

-- and else no count changed
pub none_rose : (place : OutputName) (so sn fo fn : ℕ) → Counts place so sn fo fn (Ok tt) → (sn ≡ so) × (fn ≡ fo)
none_rose Standard so sn fo fn counts = (counts.0, counts.1)
none_rose (File file) so sn fo fn counts = (counts.0, counts.1)

pub none_rose_without_memory : (place : OutputName) (so sn fo fn : ℕ) → Counts place so sn fo fn (Err fault.Memory) → (sn ≡ so) × (fn ≡ fo)
none_rose_without_memory Standard so sn fo fn counts = (counts.0, counts.1)
none_rose_without_memory (File file) so sn fo fn counts = (counts.0, counts.1)

pub file_counted : (place : OutputName) (name : List ℕ) (so sn fo fn : ℕ) → name ≡ told_name place → Counts place so sn fo fn (Err (fault.CannotWrite name)) → (fo ≤ fn) × ((fn ≡ fo) ⊎ IsFileUnwritten (Some place) (CannotWrite name))
file_counted Standard name so sn fo fn e counts = (omega (arith, counts.1), inl counts.1)
file_counted (File file) name so sn fo fn e counts = (counts.1.1, inr (ap CannotWrite e))

-- Files.

pub keeps_same : (output : Option OutputName) (ended : Ended) (before now : Option Named) → now ≡ before → KeepsFiles output ended before now
keeps_same None ended before now same = same
keeps_same (Some Standard) ended before now same = same
keeps_same (Some (File name)) ends.Ok before now same = inl same
keeps_same (Some (File name)) (CannotWrite other) before now same = inl same
keeps_same (Some (File name)) ended before now same = same

pub keeps_put : (place : OutputName) (bytes : List ℕ) (before now : Outputs) → IsPut place bytes before now → KeepsFiles (Some place) ends.Ok before.contents now.contents
keeps_put Standard bytes before now put = put.1
keeps_put (File name) bytes before now put = inr (bytes, put.1)

keeps_front : (name bytes : List ℕ) (before now : Option Named) → HoldsFront before now name bytes → KeepsOthers name before now
keeps_front name bytes before now (inl same) = inl same
keeps_front name bytes before now (inr front) = inr (take front.0 bytes, front.1)

pub keeps_partly_put : (place : OutputName) (name bytes : List ℕ) (before now : Outputs) → IsPartlyPut place bytes before now → KeepsFiles (Some place) (CannotWrite name) before.contents now.contents
keeps_partly_put Standard name bytes before now put = put.1
keeps_partly_put (File file) name bytes before now put = keeps_front file bytes before.contents now.contents put.1

-- what is left of files where the result was put, where a front of it was, and where memory ran out before

pub leaves_put : (place : OutputName) (bytes : List ℕ) (before now : Outputs) (ro rn so sn fo fn : ℕ) → IsPut place bytes before now → rn ≡ ro → Counts place so sn fo fn (Ok tt) → LeavesFilesBut (Some place) ends.Ok before.contents now.contents ro rn fo fn
leaves_put place bytes before now ro rn so sn fo fn put reads counts =
    let none = none_rose place so sn fo fn counts in
    record { contents = keeps_put place bytes before now put; reads = omega (arith, reads); writes = omega (arith, none.1); counted = inl none.1 }

pub leaves_partly_put : (place : OutputName) (name bytes : List ℕ) (before now : Outputs) (ro rn so sn fo fn : ℕ) → (name ≡ told_name place) × IsPartlyPut place bytes before now → rn ≡ ro → Counts place so sn fo fn (Err (fault.CannotWrite name)) → LeavesFilesBut (Some place) (CannotWrite name) before.contents now.contents ro rn fo fn
leaves_partly_put place name bytes before now ro rn so sn fo fn put reads counts =
    let counted = file_counted place name so sn fo fn put.0 counts in
    record { contents = keeps_partly_put place name bytes before now put.1; reads = omega (arith, reads); writes = counted.0; counted = counted.1 }

pub leaves_unput : (place : OutputName) (before now : Outputs) (ro rn so sn fo fn : ℕ) → now ≡ before → rn ≡ ro → Counts place so sn fo fn (Err fault.Memory) → LeavesFilesBut (Some place) Memory before.contents now.contents ro rn fo fn
leaves_unput place before now ro rn so sn fo fn same reads counts =
    let none = none_rose_without_memory place so sn fo fn counts in
    record { contents = keeps_same (Some place) Memory before.contents now.contents (ap (λ (x : Outputs). x.contents) same); reads = omega (arith, reads); writes = omega (arith, none.1); counted = inl none.1 }

-- nothing was written to files
pub leaves_none : (output : Option OutputName) (ended : Ended) (contents : Option Named) (reads writes : ℕ) → LeavesFilesBut output ended contents contents reads reads writes writes
leaves_none output ended contents reads writes = record {
  contents = keeps_same output ended contents contents refl;
  reads = omega arith;
  writes = omega arith;
  counted = inl refl;
}

-- nothing but reading was done with files
pub leaves_read : (output : Option OutputName) (ended : Ended) (before now : Option Named) (ro rn wo wn : ℕ) → LeavesFiles before now ro rn wo wn → LeavesFilesBut output ended before now ro rn wo wn
leaves_read output ended before now ro rn wo wn read = record {
  contents = keeps_same output ended before now read.contents;
  reads = read.later;
  writes = omega (arith, read.writes);
  counted = inl read.writes;
}

-- inputs were read, and then the result was written
pub leaves_after : (output : Option OutputName) (ended : Ended) (before mid now : Option Named) (ro rm rn wo wm wn : ℕ) → LeavesFiles before mid ro rm wo wm → LeavesFilesBut output ended mid now rm rn wm wn → LeavesFilesBut output ended before now ro rn wo wn
leaves_after output ended before mid now ro rm rn wo wm wn read but = record {
  contents = subst (λ (c : Option Named). KeepsFiles output ended c now) read.contents but.contents;
  reads = omega (arith, read.later, but.reads);
  writes = omega (arith, read.writes, but.writes);
  counted = by but.counted;
}
  where
    by : (wn ≡ wm) ⊎ IsFileUnwritten output ended → (wn ≡ wo) ⊎ IsFileUnwritten output ended
    by (inl same) = inl (same ∙ read.writes)
    by (inr told) = inr told

-- What is not written to is not touched.

pub kept_standard : {A : Type 0} (place : OutputName) (ended : Ended) (before now : A) → (IsBeforeWriting ended → ⊥) → (is_standard place ≡ false → now ≡ before) → LeavesStandard (Some place) ended → now ≡ before
kept_standard Standard ended before now written unused early = absurd (written early)
kept_standard (File name) ended before now written unused early = unused refl

pub kept_named : {A : Type 0} (place : OutputName) (ended : Ended) (before now : A) → ((file : List ℕ) → LeavesNamed (Some (File file)) ended → ⊥) → (is_standard place ≡ true → now ≡ before) → LeavesNamed (Some place) ended → now ≡ before
kept_named Standard ended before now written unused early = unused refl
kept_named (File name) ended before now written unused early = absurd (written name early)

-- a failed write is one for whatever else may have risen
pub fails_wider : (output : Option OutputName) (o o' w w' : Type 0) (ended : Ended) → (o → o') → (w → w') → FailsToWrite output o w ended → FailsToWrite output o' w' ended
fails_wider None o o' w w' (CannotWrite name) f g fails = fails
fails_wider (Some Standard) o o' w w' (CannotWrite name) f g fails = (fails.0, f fails.1)
fails_wider (Some (File file)) o o' w w' (CannotWrite name) f g fails = (fails.0, g fails.1)
fails_wider output o o' w w' Memory f g fails = tt
fails_wider output o o' w w' ended f g fails = absurd fails

-- Ends of commands with a result.

-- a result was delivered
pub result_written : (command : Command) (texts : List (List ℕ)) (place : OutputName) (bytes : List ℕ) (before now : Outputs) (ended : Ended) → output_of command ≡ Some place → IsResult command texts bytes → Delivers place bytes before now ended → IsWritten command texts before now ended
result_written command texts place bytes before now ends.Ok goes result delivered = (bytes, result, rw goes delivered)
result_written command texts place bytes before now (CannotWrite name) goes result delivered = (bytes, result, rw goes delivered.1)
result_written command texts place bytes before now Memory goes result delivered = inl delivered
result_written command texts place bytes before now ended goes result delivered = absurd delivered

-- it was delivered, or that failed
pub delivered_work : (command : Command) (texts : List (List ℕ)) (place : OutputName) (bytes : List ℕ) (before now : Outputs) (o w : Type 0) (ended : Ended) → IsWork command texts ends.Ok → Delivers place bytes before now ended → ((name : List ℕ) → ended ≡ CannotWrite name → IsUnwritten (Some place) o w name) → IsWork command texts ended ⊎ FailsToWrite (Some place) o w ended
delivered_work command texts place bytes before now o w ends.Ok work delivered cause = inl work
delivered_work command texts place bytes before now o w (CannotWrite name) work delivered cause = inr (cause name refl)
delivered_work command texts place bytes before now o w Memory work delivered cause = inr tt
delivered_work command texts place bytes before now o w ended work delivered cause = absurd delivered

pub delivered_of_work : (place : OutputName) (bytes : List ℕ) (before now : Outputs) (ended : Ended) → Delivers place bytes before now ended → IsOfWork ended
delivered_of_work place bytes before now ends.Ok delivered = tt
delivered_of_work place bytes before now (CannotWrite name) delivered = tt
delivered_of_work place bytes before now Memory delivered = tt
delivered_of_work place bytes before now ended delivered = absurd delivered

-- Ends of linking.

pub link_result : (names texts : List (List ℕ)) (place : OutputName) (text : Bool) (m : Module) → LinksTo texts m → IsResult (Link names place text) texts (written (format_of text) m)
link_result names texts place text m links = (m, links, refl)

-- Ends of assembling.

-- an accepted text is assembled to its module
pub text_assembled : (text : List ℕ) (items : List ItemTree) (m : Module) → IsTextOf text items m → AssemblesTo text m
text_assembled text items m is = record {
  reads = record { items = items; has_items = is.has_items; resolves = is.accepted.resolves };
  sized = is.accepted.sized;
  valid = is.accepted.valid;
}

pub assemble_work : (name text : List ℕ) (place : OutputName) (m : Module) → AssemblesTo text m → IsWork (Assemble name place) (text ∷ []) ends.Ok
assemble_work name text place m assembled = inr (m, assembled, refl)

pub assemble_result : (name text : List ℕ) (place : OutputName) (m : Module) → AssemblesTo text m → IsResult (Assemble name place) (text ∷ []) (written Bitcode m)
assemble_result name text place m assembled = (m, assembled, refl)

pub assemble_refused : (name text : List ℕ) (place : OutputName) (ended : Ended) → IsTextRefused name text ended ⊎ (ended ≡ Memory) → IsWork (Assemble name place) (text ∷ []) ended ⊎ (ended ≡ Memory)
assemble_refused name text place ended (inl refused) = inl (inl refused)
assemble_refused name text place ended (inr none) = inr none

-- an end of work that writes nothing
pub silent_written : (command : Command) (texts : List (List ℕ)) (before now : Outputs) (ended : Ended) → IsOfTexts ended → now ≡ before → IsWritten command texts before now ended
silent_written command texts before now ends.Ok of same = absurd of
silent_written command texts before now (CannotWrite name) of same = absurd of
silent_written command texts before now Memory of same = inl same
silent_written command texts before now ended of same = same

-- what is said of the command that was linked, and of its texts, is said of the command that it is
pub link_is : (P : Command → List (List ℕ) → Type 0) (command : Command) (names inputs given texts : List (List ℕ)) (place : OutputName) (text : Bool) → command ≡ Link inputs place text → names ≡ inputs → given ≡ texts → P (Link names place text) given → P command texts
link_is P command names inputs given texts place text is same passed said =
    let linked = ap (λ (ns : List (List ℕ)). Link ns place text) same ∙ sym is in
    subst (λ (ts : List (List ℕ)). P command ts) passed (subst (λ (c : Command). P c given) linked said)

-- the same of the command that was assembled, which has one text
pub assemble_is : (P : Command → List (List ℕ) → Type 0) (command : Command) (input : List ℕ) (place : OutputName) (texts : List (List ℕ)) (text : List ℕ) → command ≡ Assemble input place → texts ≡ text ∷ [] → P (Assemble input place) (text ∷ []) → P command texts
assemble_is P command input place texts text is one said =
    subst (λ (ts : List (List ℕ)). P command ts) (sym one) (subst (λ (c : Command). P c (text ∷ [])) (sym is) said)
