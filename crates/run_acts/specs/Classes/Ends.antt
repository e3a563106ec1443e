-- For `act_on_alloca`: what is left of the frames where the program ends.
use Rattle.std.specs.Prelude.{◌≡◌, ⊤, Result, Ok, Err}
use Rattle.ir_memory.specs.declared.fault.MemoryFault.{MemoryFault}
use Rattle.ir_memory.specs.declared.fault.MemoryFault.TheVariants as faults
use Rattle.run_actions.specs.Stack.UnderWay.{UnderWay}

-- where the program ends, the frames are as they were
abbrev pub FramesStay : {T : Type 0} → Result T MemoryFault → UnderWay → UnderWay → Type 0
FramesStay (Ok done) old new = ⊤
FramesStay (Err (faults.Undefined kind)) old new = new ≡ old
FramesStay (Err faults.MemoryLimit) old new = new ≡ old
FramesStay (Err faults.Memory) old new = ⊤
