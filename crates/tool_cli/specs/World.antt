-- For `run_tool`, and how the code of `read_inputs` reads: what is outside of a run at one time, and what it tells. The clauses on what was
-- read and written speak of that.
use Rattle.std.specs.Prelude.{ℕ, List, Option}
use Rattle.ir_base.specs.Files.{Named}
use Rattle.ir_base.specs.Outside.{Rose}
use Rattle.ir_base.specs.declared.files.Files.{Ghosts as FilesOf}
use Rattle.ir_base.specs.declared.sink.Sink.{Ghosts as SinkOf}
use Rattle.ir_base.specs.declared.source.Source.{Ghosts as SourceOf}
use Rattle.run_rules.specs.Clauses.{Outside, outside}
use Rattle.tool_output.specs.Outputs.{Outputs, outputs}

-- standard input and the files, from which inputs are read, and what they tell
pub record Sources (I F : Type 0) : Type 0 where
  pub input : I
  pub files : F
  -- the bytes that are left of standard input
  pub left : Option (List ℕ)
  -- how often a read of it failed
  pub input_faults : ℕ
  -- what is in each file
  pub contents : Option Named
  -- how often a read of a file failed
  pub read_faults : ℕ
  -- how often a write of a file failed
  pub write_faults : ℕ

-- the same, as a clause names them
abbrev pub sources : {I F : Type 0} → SourceOf I → FilesOf F → I → F → Sources I F
sources source store input files = record {
  input = input;
  files = files;
  left = source.left input;
  input_faults = source.faults input;
  contents = store.contents files;
  read_faults = store.read_faults files;
  write_faults = store.write_faults files;
}

-- standard output and the files, to which results are written, and what they tell
pub record Sinks (O F : Type 0) : Type 0 where
  pub output : O
  pub files : F
  -- what standard output has taken
  pub taken : Option (List ℕ)
  -- how often a write of it failed
  pub output_faults : ℕ
  -- what is in each file
  pub contents : Option Named
  -- how often a read of a file failed
  pub read_faults : ℕ
  -- how often a write of a file failed
  pub write_faults : ℕ

-- the same, as a clause names them
abbrev pub sinks : {O F : Type 0} → SinkOf O → FilesOf F → O → F → Sinks O F
sinks sink store output files = record {
  output = output;
  files = files;
  taken = sink.taken output;
  output_faults = sink.faults output;
  contents = store.contents files;
  read_faults = store.read_faults files;
  write_faults = store.write_faults files;
}

-- standard input, standard output and the files, and what they tell
pub record World (I O F : Type 0) : Type 0 where
  pub input : I
  pub output : O
  pub files : F
  -- the bytes that are left of standard input
  pub left : Option (List ℕ)
  -- how often a read of it failed
  pub input_faults : ℕ
  -- what standard output has taken
  pub taken : Option (List ℕ)
  -- how often a write of it failed
  pub output_faults : ℕ
  -- what is in each file
  pub contents : Option Named
  -- how often a read of a file failed
  pub read_faults : ℕ
  -- how often a write of a file failed
  pub write_faults : ℕ

-- the same, as a clause names it
abbrev pub world : {I O F : Type 0} → SourceOf I → SinkOf O → FilesOf F → I → O → F → World I O F
world source sink store input output files = record {
  input = input;
  output = output;
  files = files;
  left = source.left input;
  input_faults = source.faults input;
  taken = sink.taken output;
  output_faults = sink.faults output;
  contents = store.contents files;
  read_faults = store.read_faults files;
  write_faults = store.write_faults files;
}

-- standard input and standard output, which a program reads and writes
abbrev pub streams : {I O : Type 0} → SourceOf I → SinkOf O → I → O → Outside
streams source sink input output = outside (source.left input) (source.faults input) (sink.taken output) (sink.faults output)

-- the same of a world
abbrev pub outside_of : {I O F : Type 0} → World I O F → Outside
outside_of w = outside w.left w.input_faults w.taken w.output_faults

-- where results may go: standard output and the files
abbrev pub outputs_of : {I O F : Type 0} → World I O F → Outputs
outputs_of w = outputs w.taken w.contents

-- what the refusal of an input speaks of
pub record FoundInput : Type 1 where
  -- what the files held
  pub contents : Option Named
  -- what was left of standard input
  pub left : Option (List ℕ)
  -- the count of faults of standard input rose
  pub input_rose : Type 0
  -- the count of faults of reads of files rose
  pub files_rose : Type 0

-- the same by its parts
abbrev pub found_input : Option Named → Option (List ℕ) → Type 0 → Type 0 → FoundInput
found_input contents left input_rose files_rose = record { contents = contents; left = left; input_rose = input_rose; files_rose = files_rose }

-- the same of reading between these two times
abbrev pub found : {I F : Type 0} → Sources I F → Sources I F → FoundInput
found before now = found_input before.contents before.left (Rose before.input_faults now.input_faults) (Rose before.read_faults now.read_faults)

-- which reads and writes failed in a run
pub record Failures : Type 1 where
  -- the count of faults of standard input rose
  pub input_rose : Type 0
  -- the count of faults of reads of files rose
  pub files_rose : Type 0
  -- the count of faults of standard output rose
  pub output_rose : Type 0
  -- the count of faults of writes of files rose
  pub writes_rose : Type 0

-- the same by its parts
abbrev pub failures : Type 0 → Type 0 → Type 0 → Type 0 → Failures
failures input_rose files_rose output_rose writes_rose = record {
  input_rose = input_rose;
  files_rose = files_rose;
  output_rose = output_rose;
  writes_rose = writes_rose;
}

-- the same of a run between these two times
abbrev pub failed : {I O F : Type 0} → World I O F → World I O F → Failures
failed before now = failures
    (Rose before.input_faults now.input_faults)
    (Rose before.read_faults now.read_faults)
    (Rose before.output_faults now.output_faults)
    (Rose before.write_faults now.write_faults)
