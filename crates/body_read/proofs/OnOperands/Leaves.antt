-- What one call below finds.
use Rattle.std.proofs.Common.{◌≡◌, ◌<◌, ◌+◌, ℕ, zero, suc, false, List, [], Option, Some, None, length, get_or, take, refl, sym, ap, subst, ◌∙◌, arith}
use Rattle.std.specs.Option.{option_map}
use Rattle.std.specs.Prelude.{replicate}
use Rattle.std.proofs.lemmas.List.{length-replicate}
use Rattle.type_table.specs.Tree.{Tree}
use Rattle.type_table.specs.Types.{Types, tree, trees, structs}
use Rattle.module_arena.specs.declared.instruction.Value.TheVariants as kept
use Rattle.module_arena.specs.Lists.{Lists}
use Rattle.module_arena.specs.Module as m
use Rattle.module_arena.specs.View.{constant_at, constants_of}
use Rattle.record_table.specs.Constants as constants
use Rattle.record_table.specs.Fields.{Numbering, ty, block, local}
use Rattle.record_table.specs.Layout.{number}
use Rattle.record_table.specs.Walk.{Walk, next}
use Rattle.record_read.specs.Reader.{Reader, Reads, ReadsAs, IsKept, is_broken}
use Rattle.type_read.specs.declared.arena.counts.LocalCounts.{LocalCounts}
use Rattle.type_read.specs.declared.arena.module_reader.ModuleReader.{ModuleReader}
use Rattle.type_read.specs.Arena.Growing.{Growing, Grows, IsConstant}
use Rattle.type_read.specs.Arena.Kept.{TakesOnly, Keeps, IsRead, IsThere, IsKnownType, HasConstant, ReadsType, tree_at}
use Rattle.type_read.specs.Arena.Numbered.{Numbers, IsBlock, IsLocal, global_count}
use Rattle.type_read.proofs.OnArena.Kept.{same_table}
use Rattle.type_read.proofs.OnArena.LeavesRead.{goes_takes}
use Rattle.type_read.proofs.OnArena.Steps.{goes_self}
use Rattle.body_read.specs.Constants.Made.{inner_of}
use Rattle.body_read.proofs.OnConstants.Making.{goes_number}
use Rattle.body_read.specs.Operands.Found.{Finds, HasBlock, HasType, HasValue, block_in, type_in, value_in}
use Rattle.body_read.proofs.OnOperands.Joined.{put, put_so, same_locals, starting}

-- indices stand for something in every module in the making
some_numbering : (a : ModuleReader) → (k : Numbering) × Numbers a k
some_numbering a =
    let globals : List m.Bytes = replicate (global_count a.globals) [] in
    let none : m.LocalName = m.Numbered 0 in (
      record {
        types = take a.growing.types (trees a.growing.arena.table);
        structs = structs a.growing.arena.table;
        targets = take (a.globals.variables + a.globals.functions) globals;
        globals = globals;
        values = replicate a.locals.values none;
        blocks = replicate a.locals.blocks none;
      },
      record {
        types = refl;
        structs_are = refl;
        targets = refl;
        globals = length-replicate (global_count a.globals) [];
        values = length-replicate a.locals.values none;
        blocks = length-replicate a.locals.blocks none;
      },
    )

-- ---- types

pub type_found : (a b : ModuleReader) (x : Option ℕ) → TakesOnly a b → IsKnownType b x → ((k : Numbering) → Numbers a k → ReadsType k a b x) → Finds HasType type_in (λ k. (ty k).read) a b x
type_found a b x takes known reads = record {
  goes = goes_takes a b takes;
  there = λ later g. there x later g known;
  walk = λ k n. ap (λ (r : Reader). r.walk) (reads k n).reader;
  kept = λ k n declared unbroken later g. is x later g known unbroken ((ty k).read a.reader.walk).0 (reads k n).tree_is;
}
  where
    there : (x : Option ℕ) (later : Growing) → Grows b.growing later → IsKnownType b x → IsThere (HasType b.locals later.arena) x b.reader.walk
    there None later g h = h
    there (Some id) later g h = subst (λ (t : Types). id < length t.types) (sym (same_table b.growing later g)) h

    is : (x : Option ℕ) (later : Growing) → Grows b.growing later → IsKnownType b x → is_broken b.reader.walk ≡ false → (t : Tree) → tree_at a.growing.arena.table x ≡ t → option_map (λ id. tree later.arena.table id) x ≡ Some t
    is None later g h unbroken t e = absurd (cc)
    is (Some id) later g h unbroken t e =
        ap (λ (u : Tree). Some u) (ap (λ (s : Types). tree s id) (same_table b.growing later g ∙ same_table a.growing b.growing (goes_takes a b takes).grows) ∙ e)

-- the type that was read, by what its index stands for
pub type_is : (a b : ModuleReader) (x : Option ℕ) → TakesOnly a b → ((k : Numbering) → Numbers a k → ReadsType k a b x) → (k : Numbering) → Numbers a k → tree_at b.growing.arena.table x ≡ ((ty k).read a.reader.walk).0
type_is a b x takes reads k n = ap (λ (t : Types). tree_at t x) (same_table a.growing b.growing (goes_takes a b takes).grows) ∙ (reads k n).tree_is

-- a type that is known already
pub given_found : (a : ModuleReader) (x : Option ℕ) (t : Tree) → IsKnownType a x → tree_at a.growing.arena.table x ≡ t → Finds HasType type_in (λ k w. (t, w)) a a x
given_found a x t known same = record {
  goes = goes_self a;
  there = λ later g. there x later g known;
  walk = λ k n. refl;
  kept = λ k n declared unbroken later g. is x later g known unbroken same;
}
  where
    there : (x : Option ℕ) (later : Growing) → Grows a.growing later → IsKnownType a x → IsThere (HasType a.locals later.arena) x a.reader.walk
    there None later g h = h
    there (Some id) later g h = subst (λ (s : Types). id < length s.types) (sym (same_table a.growing later g)) h

    is : (x : Option ℕ) (later : Growing) → Grows a.growing later → IsKnownType a x → is_broken a.reader.walk ≡ false → tree_at a.growing.arena.table x ≡ t → option_map (λ id. tree later.arena.table id) x ≡ Some t
    is None later g h unbroken e = absurd (cc)
    is (Some id) later g h unbroken e = ap (λ (u : Tree). Some u) (ap (λ (s : Types). tree s id) (same_table a.growing later g) ∙ e)

-- ---- blocks, parameters and results

pub block_found : (a b : ModuleReader) (x : Option ℕ) → TakesOnly a b → ((k : Numbering) → Numbers a k → ReadsAs (IsBlock k) (block k) a.reader b.reader x) → Finds HasBlock block_in (λ k. (block k).read) a b x
block_found a b x takes reads =
    let some = some_numbering a in record {
      goes = goes_takes a b takes;
      there = λ later g. there x some.0 some.1 (reads some.0 some.1).kept later;
      walk = λ k n. ap (λ (r : Reader). r.walk) (reads k n).reader;
      kept = λ k n declared unbroken later g. is x k (reads k n).kept unbroken later;
    }
  where
    there : (x : Option ℕ) (k : Numbering) → Numbers a k → IsKept (IsBlock k) x ((block k).read a.reader.walk).0 b.reader.walk → (later : Growing) → IsThere (HasBlock b.locals later.arena) x b.reader.walk
    there None k n h later = h
    there (Some id) k n h later =
        let many : length k.blocks ≡ b.locals.blocks = n.blocks ∙ ap (λ (l : LocalCounts). l.blocks) (same_locals a b (goes_takes a b takes)) in
        let lt = h.known in omega arith

    is : (x : Option ℕ) (k : Numbering) → IsKept (IsBlock k) x ((block k).read a.reader.walk).0 b.reader.walk → is_broken b.reader.walk ≡ false → (later : Growing) → option_map (block_in k later.arena) x ≡ Some ((block k).read a.reader.walk).0
    is None k h unbroken later = absurd (cc)
    is (Some id) k h unbroken later = ap (λ (name : m.LocalName). Some name) h.named

-- a parameter or result of the body
abbrev HasLocal : LocalCounts → Lists → ℕ → Type 0
HasLocal l a id = id < l.values

abbrev local_in : Numbering → Lists → ℕ → m.LocalName
local_in k a id = get_or k.values id (m.Numbered 0)

local_found : (a b : ModuleReader) (x : Option ℕ) → TakesOnly a b → ((k : Numbering) → Numbers a k → ReadsAs (IsLocal k) (local k) a.reader b.reader x) → Finds HasLocal local_in (λ k. (local k).read) a b x
local_found a b x takes reads =
    let some = some_numbering a in record {
      goes = goes_takes a b takes;
      there = λ later g. there x some.0 some.1 (reads some.0 some.1).kept later;
      walk = λ k n. ap (λ (r : Reader). r.walk) (reads k n).reader;
      kept = λ k n declared unbroken later g. is x k (reads k n).kept unbroken later;
    }
  where
    there : (x : Option ℕ) (k : Numbering) → Numbers a k → IsKept (IsLocal k) x ((local k).read a.reader.walk).0 b.reader.walk → (later : Growing) → IsThere (HasLocal b.locals later.arena) x b.reader.walk
    there None k n h later = h
    there (Some id) k n h later =
        let many : length k.values ≡ b.locals.values = n.values ∙ ap (λ (l : LocalCounts). l.values) (same_locals a b (goes_takes a b takes)) in
        let lt = h.known in omega arith

    is : (x : Option ℕ) (k : Numbering) → IsKept (IsLocal k) x ((local k).read a.reader.walk).0 b.reader.walk → is_broken b.reader.walk ≡ false → (later : Growing) → option_map (local_in k later.arena) x ≡ Some ((local k).read a.reader.walk).0
    is None k h unbroken later = absurd (cc)
    is (Some id) k h unbroken later = ap (λ (name : m.LocalName). Some name) h.named

-- ---- constants

-- a constant of the arena, and what it is
abbrev pub HasConst : LocalCounts → Lists → ℕ → Type 0
HasConst l a id = id < length a.constants

abbrev pub const_in : Numbering → Lists → ℕ → m.Constant
const_in k a id = constant_at (constants_of a) id

pub const_found : (read : Numbering → Walk → m.Constant × Walk) (a b : ModuleReader) (x : Option ℕ) → Keeps HasConstant a b x → ((k : Numbering) → Numbers a k → IsRead k IsConstant (read k a.reader.walk) a b x) → Finds HasConst const_in read a b x
const_found read a b x keeps reads = record {
  goes = keeps.goes;
  there = λ later g. there x keeps.there later g;
  walk = λ k n. (reads k n).walk;
  kept = λ k n declared unbroken later g. is x (read k a.reader.walk).0 ((reads k n).kept declared) unbroken later g;
}
  where
    there : (x : Option ℕ) → IsThere (HasConstant b.growing.arena) x b.reader.walk → (later : Growing) → Grows b.growing later → IsThere (HasConst b.locals later.arena) x b.reader.walk
    there None h later g = h
    there (Some id) h later g = (g.constants id h).known

    is : (x : Option ℕ) (c : m.Constant) → IsKept (IsConstant b.growing.arena) x c b.reader.walk → is_broken b.reader.walk ≡ false → (later : Growing) → Grows b.growing later → option_map (λ id. constant_at (constants_of later.arena) id) x ≡ Some c
    is None c h unbroken later g = absurd (cc)
    is (Some id) c h unbroken later g = ap (λ (d : m.Constant). Some d) ((g.constants id h.known).constant ∙ h.constant)

-- ---- values

local_code : (k : Numbering) (t : Tree) (w v : Walk) (code : ℕ) → code ≡ 0 → code ≡ (next w).0 → v ≡ (next w).1 → put (λ (name : m.LocalName). m.Local name) (λ k. (local k).read) k v ≡ (constants.value k t).read w
unfolding constants.value_by
local_code k t w v code none is at = (λ j. put (λ (name : m.LocalName). m.Local name) (λ k. (local k).read) k (at j)) ∙ ap (λ n. constants.value_by k t n (next w).1) (sym none ∙ is)

pub local_value_found : (t : Tree) (a : ModuleReader) (r : Reader) (b : ModuleReader) (code : ℕ) (x : Option ℕ) → Reads number a.reader r code → code ≡ 0 → TakesOnly (record a { reader = r }) b
    → ((k : Numbering) → Numbers (record a { reader = r }) k → ReadsAs (IsLocal k) (local k) r b.reader x) → Finds HasValue value_in (λ k. (constants.value k t).read) a b (option_map (λ (id : ℕ). kept.Local id) x)
local_value_found t a r b code x front none takes reads =
    starting (λ k. (constants.value k t).read) a (record a { reader = r }) b (option_map (λ (id : ℕ). kept.Local id) x) (goes_number a r code front)
    (put_so HasValue value_in (λ (id : ℕ). kept.Local id) (λ (name : m.LocalName). m.Local name) (record a { reader = r }) b x (λ l q id lt. lt) (λ k q id. refl) (local_found (record a { reader = r }) b x takes reads))
    (λ k n. local_code k t a.reader.walk r.walk code none front.value (ap (λ (q : Reader). q.walk) front.reader))

coded_suc : (k : Numbering) (t : Tree) (w v : Walk) (code : ℕ) (n : ℕ) → n ≡ code → (code ≡ 0 → ⊥) → put (λ (c : m.Constant). m.Known c) (λ k w. constants.by_code k (inner_of k 64) code t w) k v ≡ constants.value_by k t n v
unfolding constants.value_by
coded_suc k t w v code zero is some = absurd (some (sym is))
coded_suc k t w v code (suc n) is some = ap (λ i. put (λ (c : m.Constant). m.Known c) (λ k w. constants.by_code k (Some (constants.read_nested k 63)) i t w) k v) (sym is)

pub known_value_found : (t : Tree) (a : ModuleReader) (r : Reader) (b : ModuleReader) (code : ℕ) (x : Option ℕ) → Reads number a.reader r code → (code ≡ 0 → ⊥) → Keeps HasConstant (record a { reader = r }) b x
    → ((k : Numbering) → Numbers (record a { reader = r }) k → IsRead k IsConstant (constants.by_code k (inner_of k 64) code t r.walk) (record a { reader = r }) b x) → Finds HasValue value_in (λ k. (constants.value k t).read) a b (option_map (λ (id : ℕ). kept.Known id) x)
known_value_found t a r b code x front some keeps reads =
    starting (λ k. (constants.value k t).read) a (record a { reader = r }) b (option_map (λ (id : ℕ). kept.Known id) x) (goes_number a r code front)
    (put_so HasValue value_in (λ (id : ℕ). kept.Known id) (λ (c : m.Constant). m.Known c) (record a { reader = r }) b x (λ l q id lt. lt) (λ k q id. refl)
    (const_found (λ k w. constants.by_code k (inner_of k 64) code t w) (record a { reader = r }) b x keeps reads))
    (λ k n. coded_suc k t a.reader.walk r.walk code code refl some ∙ (λ j. constants.value_by k t (front.value j) (front.reader j).walk))
