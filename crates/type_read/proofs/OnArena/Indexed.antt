-- What an index stands for, against a place that was read.
use Rattle.std.proofs.Common.{◌≡◌, ◌<◌, ◌≤◌, ◌+◌, ℕ, zero, suc, true, List, [], ◌∷◌, Option, Some, None, length, get_or, take, refl, sym, ap, subst, ◌∙◌, arith}
use Rattle.std.specs.Prelude.{bytes_eq, nat_lt}
use Rattle.std.proofs.lemmas.Bool.{le-ltb}
use Rattle.std.proofs.lemmas.List.{take_all, get_or_past}
use Rattle.type_table.specs.Tree.{Tree, void}
use Rattle.type_table.specs.Types.{tree, trees}
use Rattle.type_table.proofs.Added.{length-trees}
use Rattle.module_arena.specs.declared.entry.GlobalId.{GlobalId}
use Rattle.module_arena.specs.Known.{HasGlobal, counts}
use Rattle.module_arena.specs.Module.{Bytes}
use Rattle.record_table.specs.Walk.{next, ask}
use Rattle.record_table.specs.Layout.{number, asking, indexed}
use Rattle.record_table.specs.Fields.{Numbering, ty, global, target}
use Rattle.record_read.specs.Reader.{Reader, Reads, ReadsAs, IsBroken, is_broken, is_stopped}
use Rattle.record_read.specs.Fields.{IsBelow}
use Rattle.type_read.specs.declared.arena.module_reader.ModuleReader.{ModuleReader}
use Rattle.type_read.specs.Arena.Numbered.{Numbers, IsDeclared, IsGlobal, ReadsGlobal, global_count, global_of}
use Rattle.type_read.specs.Arena.Kept.{ReadsType, TakesOnly}
use Rattle.type_read.proofs.OnArena.Lasting.{next_still, ask_still, vain_broken}

-- a front of a list has the items of the list
pub get_take : {A : Type 0} (xs : List A) (n i : ℕ) (d : A) → i < n → i < length xs → get_or (take n xs) i d ≡ get_or xs i d
get_take [] n i d lt there = absurd (omega arith)
get_take (x ∷ xs) zero i d lt there = absurd (omega arith)
get_take (x ∷ xs) (suc n) zero d lt there = refl
get_take (x ∷ xs) (suc n) (suc i) d lt there = get_take xs n i d (omega arith) (omega arith)

pub length_take : {A : Type 0} (xs : List A) (n : ℕ) → n ≤ length xs → length (take n xs) ≡ n
length_take xs zero le = refl
length_take [] (suc n) le = absurd (omega arith)
length_take (x ∷ xs) (suc n) le = ap suc (length_take xs n (omega arith))

-- a place was read, and nothing else changed
pub takes_place : (old : ModuleReader) (r : Reader) (limit : ℕ) (place : Option ℕ) → ReadsAs (IsBelow limit) (asking 2 (λ n. nat_lt n limit) number) old.reader r place → TakesOnly old (record old { reader = r })
takes_place old r limit place h =
    let at : r.walk ≡ ask 2 (nat_lt (next old.reader.walk).0 limit) (next old.reader.walk).1 = ap (λ (q : Reader). q.walk) h.reader in
    record {
      rest = ap (λ (q : Reader). record old { reader = q }) (h.reader ∙ ap (λ w. record old.reader { walk = w }) (sym at));
      lasts = λ broken. subst IsBroken (sym at) (ask_still 2 (nat_lt (next old.reader.walk).0 limit) (next old.reader.walk).1 (next_still old.reader.walk broken));
    }

-- the walk behind an index, where the list has so many
walk_is : (count many : ℕ) (old r : Reader) (place : Option ℕ) → count ≡ many → ReadsAs (IsBelow count) (asking 2 (λ n. nat_lt n count) number) old r place
    → r ≡ record old { walk = ask 2 (nat_lt (next old.walk).0 many) (next old.walk).1 }
walk_is count many old r place is h = h.reader ∙ ap (λ n. record old { walk = ask 2 (nat_lt (next old.walk).0 n) (next old.walk).1 }) is

-- ---- types

module _ (m : ModuleReader) (mid r : Reader) (n count : ℕ) (reads : Reads number m.reader mid n) (asked : r ≡ record mid { walk = ask 2 (nat_lt n count) mid.walk }) where
  whole : r ≡ record m.reader { walk = ask 2 (nat_lt n count) (next m.reader.walk).1 }
  whole = asked ∙ ap (λ (q : Reader). record q { walk = ask 2 (nat_lt n count) q.walk }) reads.reader

  pub type_takes : TakesOnly m (record m { reader = r })
  type_takes =
      let at : r.walk ≡ ask 2 (nat_lt n count) (next m.reader.walk).1 = ap (λ (q : Reader). q.walk) whole in
      record {
        rest = ap (λ (q : Reader). record m { reader = q }) (whole ∙ ap (λ w. record m.reader { walk = w }) (sym at));
        lasts = λ broken. subst IsBroken (sym at) (ask_still 2 (nat_lt n count) (next m.reader.walk).1 (next_still m.reader.walk broken));
      }

  pub none_broken : count ≤ n → (is_stopped r.walk ≡ true → is_broken r.walk ≡ true) → IsBroken r.walk
  none_broken le stops = vain_broken 2 mid.walk r.walk (ap (λ (q : Reader). q.walk) asked ∙ ap (λ b. ask 2 b mid.walk) (le-ltb n count le)) stops

  module _ (k : Numbering) (h : Numbers m k) (is : count ≡ m.growing.types) (there : count < length m.growing.arena.table.types) where
    many_types : length k.types ≡ count
    many_types = ap length h.types ∙ (length_take (trees m.growing.arena.table) m.growing.types (let long = length-trees m.growing.arena.table in omega (arith, long, there, is)) ∙ sym is)

    type_reader : r ≡ record m.reader { walk = ((ty k).read m.reader.walk).1 }
    type_reader = whole ∙ (λ j. record m.reader { walk = ask 2 (nat_lt (reads.value j) (sym many_types j)) (next m.reader.walk).1 })

    pub type_read : (id : ℕ) → n < count → id ≡ n → ReadsType k m (record m { reader = r }) (Some id)
    type_read id lt same =
        let long = length-trees m.growing.arena.table in
        record {
          tree_is = ap (tree m.growing.arena.table) same
              ∙ (sym (get_take (trees m.growing.arena.table) m.growing.types n void (omega (arith, lt, is)) (omega (arith, lt, there, long)))
              ∙ (ap (λ (ts : List Tree). get_or ts n void) (sym h.types) ∙ ap (λ i. get_or k.types i void) reads.value));
          reader = type_reader;
        }

    pub no_type_read : count ≤ n → ReadsType k m (record m { reader = r }) None
    no_type_read le = record {
      tree_is = sym (get_or_past k.types n void (let many = many_types in omega (arith, many, le))) ∙ ap (λ i. get_or k.types i void) reads.value;
      reader = type_reader;
    }

-- ---- entries

module _ (m : ModuleReader) (k : Numbering) (h : Numbers m k) (count : ℕ) (le : count ≤ global_count m.globals) where
  many_globals : length (take count k.globals) ≡ count
  many_globals = length_take k.globals count (let all = h.globals in omega (arith, le, all))

  -- the entry at that place
  entry_at : (place : ℕ) → place < count → IsDeclared m k → IsGlobal m.growing.arena (global_of m.globals place) (get_or (take count k.globals) place [])
  entry_at place lt declared =
      let all = h.globals in
      subst (IsGlobal m.growing.arena (global_of m.globals place)) (sym (get_take k.globals count place [] lt (omega (arith, lt, le, all)))) (declared place (omega (arith, lt, le, all)))

  pub global_read : (r : Reader) (place : ℕ) (id : GlobalId) → id ≡ global_of m.globals place → ReadsAs (IsBelow count) (asking 2 (λ n. nat_lt n count) number) m.reader r (Some place)
      → ReadsGlobal k (indexed bytes_eq (take count k.globals) []) m (record m { reader = r }) (Some id)
  global_read r place id is reads = record {
    reader = walk_is count (length (take count k.globals)) m.reader r (Some place) (sym many_globals) reads;
    kept = λ declared.
        subst (IsGlobal m.growing.arena id) (ap (λ n. get_or (take count k.globals) n []) reads.kept.0)
        (subst (λ g. IsGlobal m.growing.arena g (get_or (take count k.globals) place [])) (sym is) (entry_at place reads.kept.1 declared));
  }

  -- an entry that the arena does not have is not declared
  pub undeclared_read : (r : Reader) (place : ℕ) (id : GlobalId) → id ≡ global_of m.globals place → (HasGlobal (counts m.growing.arena) id → ⊥) → ReadsAs (IsBelow count) (asking 2 (λ n. nat_lt n count) number) m.reader r (Some place)
      → ReadsGlobal k (indexed bytes_eq (take count k.globals) []) m (record m { reader = r }) None
  undeclared_read r place id is none reads = record {
    reader = walk_is count (length (take count k.globals)) m.reader r (Some place) (sym many_globals) reads;
    kept = λ declared. absurd (none (subst (HasGlobal (counts m.growing.arena)) (sym is) (entry_at place reads.kept.1 declared).known));
  }

  pub no_global_read : (r : Reader) → ReadsAs (IsBelow count) (asking 2 (λ n. nat_lt n count) number) m.reader r None → ReadsGlobal k (indexed bytes_eq (take count k.globals) []) m (record m { reader = r }) None
  no_global_read r reads = record {
    reader = walk_is count (length (take count k.globals)) m.reader r None (sym many_globals) reads;
    kept = λ declared. reads.kept;
  }

-- all entries
pub among_all : (m n : ModuleReader) (k : Numbering) (count : ℕ) (answer : Option GlobalId) → Numbers m k → count ≡ global_count m.globals → ReadsGlobal k (indexed bytes_eq (take count k.globals) []) m n answer → ReadsGlobal k (global k) m n answer
among_all m n k count answer h is reads =
    let all = h.globals in
    subst (λ (names : List Bytes). ReadsGlobal k (indexed bytes_eq names []) m n answer) (take_all count k.globals (omega (arith, is, all))) reads

-- those that may be aliased
pub among_targets : (m n : ModuleReader) (k : Numbering) (count : ℕ) (answer : Option GlobalId) → Numbers m k → count ≡ m.globals.variables + m.globals.functions → ReadsGlobal k (indexed bytes_eq (take count k.globals) []) m n answer
    → ReadsGlobal k (target k) m n answer
among_targets m n k count answer h is reads =
    subst (λ (names : List Bytes). ReadsGlobal k (indexed bytes_eq names []) m n answer) (ap (λ c. take c k.globals) is ∙ sym h.targets) reads
