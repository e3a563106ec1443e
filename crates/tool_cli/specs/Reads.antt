-- For `run_tool`, and how the code of `read_inputs` reads: what a call that reads inputs leaves, and what a run does: they say so beside their
-- answers.
use Rattle.std.specs.Prelude.{◌≡◌, ◌⊎◌, ℕ, ◌+◌, ◌<◌, ◌≤◌, Bool, true, false, List, length, codes, Option, Result, IsErrAnd, OnOk}
use Rattle.std.specs.Bool.{MatchBool}
use Rattle.std.specs.List.{IsAmong}
use Rattle.ir_base.specs.Outside.{Rose, Lost, LostUpTo}
use Rattle.ir_base.specs.Files.{Named}
use Rattle.tool_output.specs.declared.ends.ended.Ended.{Ended}
use Rattle.tool_output.specs.declared.ends.ended.Ended.TheVariants.{CannotRead, CannotWrite, InputTooLarge}
use Rattle.tool_cli.specs.Causes.{IsStdinOrMemory, IsUnreadOrMemory, IsUnread, IsPassed}
use Rattle.tool_cli.specs.Inputs.{inputs_named, listens}
use Rattle.tool_cli.specs.Output.{output_named, LeavesFilesBut, IsUnwritten, IsUnwrittenOrMemory, IsFileUnwritten}
use Rattle.tool_cli.specs.World.{Sources, World}
use Rattle.tool_cli.specs.declared.inputs.TheConstants.{LARGEST}

-- standard input lost a front of its bytes, of no more than the limit of one input and one byte
pub record LeavesInput (left_before left_now : Option (List ℕ)) (faults_before faults_now : ℕ) : Type 0 where
  pub lost : LostUpTo (LARGEST + 1) left_before left_now
  pub later : faults_before ≤ faults_now

-- standard input lost a front of its bytes, and its count of faults is what it was or rose; but for what a program reads, they were no more than the limit of
-- one input and one byte, and no count fell
pub record LosesInput (hears : Bool) (left_before left_now : Option (List ℕ)) (faults_before faults_now : ℕ) : Type 0 where
  pub front : List ℕ
  pub lost : Lost left_before left_now front
  pub few : hears ≡ false → length front ≤ LARGEST + 1
  pub later : MatchBool hears ((faults_now ≡ faults_before) ⊎ Rose faults_before faults_now) (faults_before ≤ faults_now)

-- no file changed, and none was written
pub record LeavesFiles (contents_before contents_now : Option Named) (reads_before reads_now writes_before writes_now : ℕ) : Type 0 where
  pub contents : contents_now ≡ contents_before
  pub later : reads_before ≤ reads_now
  pub writes : writes_now ≡ writes_before

-- What is not to be read is as it was. Which of the two that is, the two facts say.
pub record LeavesUnread {A B : Type 0} (no_stdin no_file : Type 0) (input_before input_now : A) (files_before files_now : B) : Type 0 where
  -- standard input
  pub unread : no_stdin → input_now ≡ input_before
  -- the files
  pub files_unread : no_file → files_now ≡ files_before

-- what a call that reads inputs leaves of standard input and of the files, by its answer
pub record LeavesInputs {I F T : Type 0} (before now : Sources I F) (result : Result T Ended) : Type 0 where
  -- where all was read no read of standard input failed
  pub input_fine : OnOk result (now.input_faults ≡ before.input_faults)
  -- nor did a read of a file
  pub file_fine : OnOk result (now.read_faults ≡ before.read_faults)
  -- a fault of standard input is told, or memory ran out
  pub input_fault : before.input_faults < now.input_faults → IsErrAnd result IsStdinOrMemory
  -- so is one of a read of a file
  pub file_fault : before.read_faults < now.read_faults → IsErrAnd result IsUnreadOrMemory
  -- what standard input lost
  pub input : LeavesInput before.left now.left before.input_faults now.input_faults
  -- what became of the files
  pub files : LeavesFiles before.contents now.contents before.read_faults now.read_faults before.write_faults now.write_faults

-- what the run of these words leaves of standard input and of the files, by its end
pub record LeavesBehind {I O F : Type 0} (words : List (List ℕ)) (before now : World I O F) (ended : Ended) : Type 0 where
  -- a fault of standard input is told, or memory ran out
  pub input_fault : before.input_faults < now.input_faults → IsStdinOrMemory ended
  -- so is one of a read of a file
  pub file_fault : before.read_faults < now.read_faults → IsUnreadOrMemory ended
  -- what standard input lost
  pub input : LosesInput (listens words) before.left now.left before.input_faults now.input_faults
  -- what became of the files
  pub files : LeavesFilesBut (output_named words) ended before.contents now.contents before.read_faults now.read_faults before.write_faults now.write_faults

-- why the run of these words told that an input was not read or the output not written, by its end; and that it told each write that failed
pub record HasCauses {I O F : Type 0} (words : List (List ℕ)) (before now : World I O F) (ended : Ended) : Type 0 where
  -- what could not be read is an input of the words, or what a program reads; and a read of it failed, or there is no such file
  pub cannot_read : (name : List ℕ) → ended ≡ CannotRead name
      → (IsAmong (inputs_named words) name ⊎ ((listens words ≡ true) × (name ≡ codes "-")))
      × IsUnread before.contents (Rose before.input_faults now.input_faults) (Rose before.read_faults now.read_faults) name
  -- what was too large is an input of the words, and passed that limit: by what is told of it, and of the inputs before it
  pub too_large : (name : List ℕ) (limit : ℕ) → ended ≡ InputTooLarge name limit
      → IsAmong (inputs_named words) name × IsPassed before.contents before.left (inputs_named words) name limit
  -- what could not be written is the output, and a write of it failed
  pub cannot_write : (name : List ℕ) → ended ≡ CannotWrite name
      → IsUnwritten (output_named words) (Rose before.output_faults now.output_faults) (Rose before.write_faults now.write_faults) name
  -- a fault of standard output is told, or memory ran out
  pub output_fault : before.output_faults < now.output_faults → IsUnwrittenOrMemory ended
  -- so is one of a write of a file
  pub write_fault : before.write_faults < now.write_faults → IsFileUnwritten (output_named words) ended
