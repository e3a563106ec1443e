-- Says how the code reads: the definitions of structs that were read and not given to the table yet.
use Rattle.std.specs.Prelude.{◌≡◌, ◌≢◌, ◌⊎◌, ◌≤◌, ◌<◌, ◌+◌, ℕ, suc, Bool, true, false, List, [], ◌∷◌, ◌++◌, length, slice_get, All, Some, None, Result, Ok, Err, ⊤}
use Rattle.type_table.specs.declared.fault.TypeFault.{TypeFault}
use Rattle.type_table.specs.declared.fault.TypeFault.TheVariants as type_fault
use Rattle.type_table.specs.declared.ir_type.StructBody.{StructBody}
use Rattle.type_table.specs.Types.{Types, IsKnownBody, bodies, with_body}
use Rattle.type_table.specs.Batch.{with_bodies}
use Rattle.module_arena.specs.Changes.{with_table}
use Rattle.module_arena.specs.Lists.{Lists}
use Rattle.module_arena.specs.Module.{Bytes}
use Rattle.record_table.specs.Walk.{told}
use Rattle.record_table.specs.Faults as faults
use Rattle.record_table.specs.TypeRecords.{Listed, all_fit}
use Rattle.record_read.specs.Faults.{Answers, Finishes}
use Rattle.record_read.specs.Reader.{Reader, also_asked}
use Rattle.record_read.specs.declared.fault.BitcodeFault.{BitcodeFault}
use Rattle.record_read.specs.declared.fault.BitcodeFault.TheVariants.{BadRecord, Memory}
use Rattle.type_read.specs.declared.pending.Pending.{Pending}
use Rattle.type_read.specs.declared.structs.StructNames.{StructNames}
use Rattle.type_read.specs.Listed.{IsMore}

-- all of a table fits behind each of the bodies that its structs get one after another
abbrev pub StaysFit : Types → ℕ → List StructBody → Type 0
StaysFit t first [] = ⊤
StaysFit t first (body ∷ given) = (all_fit (with_body t first body) ≡ true) × StaysFit (with_body t first body) (suc first) given

-- the index of the record of the first body behind which not all fits, where that of the first body is this
abbrev pub IsFirstUnfit : Types → ℕ → List StructBody → ℕ → ℕ → Type 0
IsFirstUnfit t first [] at index = ⊥
IsFirstUnfit t first (body ∷ given) at index =
    ((all_fit (with_body t first body) ≡ false) × (index ≡ at))
    ⊎ ((all_fit (with_body t first body) ≡ true) × IsFirstUnfit (with_body t first body) (suc first) given (suc at) index)

-- the arena, with what pends given to its structs
abbrev pub held : Lists → Pending → Lists
held a p = with_table a (with_bodies a.table p.first p.bodies.items)

-- all that pends stays fit
abbrev pub HoldsFit : Lists → Pending → Type 0
HoldsFit a p = StaysFit a.table p.first p.bodies.items

-- the first that pends and does not, by the index of its record
abbrev pub HoldsUnfit : Lists → Pending → ℕ → Type 0
HoldsUnfit a p index = IsFirstUnfit a.table p.first p.bodies.items p.at index

-- structs of the table from the first on that have no bodies, and for each one whose fields are types of the table
pub record ArePending (t : Types) (first : ℕ) (given : List StructBody) : Type 0 where
  pub known : All (IsKnownBody t) given
  pub undefined : (k : ℕ) → first ≤ k → k < first + length given → slice_get (bodies t) k ≡ Some None

-- so what pends may be given
abbrev pub IsPending : Lists → Pending → Type 0
IsPending a p = ArePending a.table p.first p.bodies.items

-- behind what pends there are so many definitions and records
pub record IsCounted (p : Pending) (defined at : ℕ) : Type 0 where
  pub number : defined ≡ p.first + length p.bodies.items
  pub place : at ≡ p.at + length p.bodies.items

-- one body more pends
pub record HoldsMore (before : Pending) (body : StructBody) (now : Pending) : Type 0 where
  pub first : now.first ≡ before.first
  pub at : now.at ≡ before.at
  pub bodies_are : now.bodies.items ≡ before.bodies.items ++ body ∷ []

-- what pends was refused by rule 7 of its first record that breaks it, or memory ran out
abbrev pub RefusesHeld : Lists → Pending → BitcodeFault → Type 0
RefusesHeld a p given = (given ≡ Memory) ⊎ ((index : ℕ) × HoldsUnfit a p index × (given ≡ BadRecord faults.types_id index 7))

-- what pends was given to the structs, and stays fit; or it was refused
abbrev pub Gives : Lists → Pending → Result (Unit {0}) BitcodeFault → Lists → Type 0
Gives old p (Ok done) new = (new ≡ held old p) × HoldsFit old p
Gives old p (Err given) new = RefusesHeld old p given

-- memory ran out, or it is another fault
abbrev pub LacksMemory : TypeFault → Result (Unit {0}) BitcodeFault → Type 0
LacksMemory fault (Ok done) = fault ≢ type_fault.Memory
LacksMemory fault (Err given) = given ≡ Memory

-- a struct was given its body where all fits then
abbrev pub Defines : ℕ → StructBody → Lists → Result Bool BitcodeFault → Lists → Type 0
Defines id body old (Ok true) new = (new ≡ with_table old (with_body old.table id body)) × (all_fit (with_body old.table id body) ≡ true)
Defines id body old (Ok false) new = all_fit (with_body old.table id body) ≡ false
Defines id body old (Err given) new = given ≡ Memory

-- whether all fits behind this body too, asked of the record
abbrev pub asked_fit : Lists → ℕ → StructBody → Reader → Reader
asked_fit a number body r = record r { walk = also_asked 7 (all_fit (with_body a.table number body)) r.walk }

-- one body more pends, whose record breaks no rule but, maybe, 7; else what pends is refused, or else the record is
abbrev pub PutsBody : Lists → Pending → ℕ → StructBody → Reader → Result (Unit {0}) BitcodeFault → Lists → Pending → Type 0
PutsBody old before number body r (Ok done) new now = (new ≡ old) × HoldsMore before body now × (told r.walk ≡ None)
PutsBody old before number body r (Err given) new now =
    RefusesHeld old before given ⊎ (HoldsFit old before × Finishes faults.types_id (asked_fit (held old before) number body r) (Err given))

-- One record more was read, which answers so where what pended stays fit. It is among what pends, or that was given to
-- the table.
pub record PutsRecord (old new : Lists) (before now : Pending) (found : StructNames) (all later : List Bytes) (s : Listed) (answer : faults.Answer Listed) (count : ℕ) : Type 0 where
  pub u : Listed
  pub more : IsMore (held new now) found all later s u
  pub pending : IsPending new now
  pub counted : IsCounted now count u.at
  pub number : count ≡ length u.names
  pub fits : HoldsFit new now → HoldsFit old before × (answer ≡ Ok u)
  pub unfit : (index : ℕ) → HoldsUnfit new now index
      → HoldsUnfit old before index ⊎ (HoldsFit old before × (answer ≡ Err (faults.BadRecord faults.types_id index 7)))

-- so a record is read or refused, or what pended is
abbrev pub Puts : {B : Type 0} → (B → ℕ) → Lists → Pending → StructNames → List Bytes → List Bytes → Listed → faults.Answer Listed → Result B BitcodeFault → Lists → Pending → Type 0
Puts count old before found all later s answer (Ok done) new now = PutsRecord old new before now found all later s answer (count done)
Puts count old before found all later s answer (Err given) new now =
    RefusesHeld old before given ⊎ (HoldsFit old before × Answers {B = Unit {0}} (λ _ _. ⊥) answer (Err given))
