-- The entries of a module's block as they are declared: what was declared so far, and what is to come.
use Rattle.std.proofs.Common.{◌≡◌, ◌+◌, ℕ, List, ◌∷◌, Option, Some, None, length, drop, inl, inr, refl, sym, ap, subst, ◌∙◌, arith}
use Rattle.std.proofs.lemmas.Option.{none-some, same_Some}
use Rattle.bit_tree.specs.Pieces.{Piece, ended}
use Rattle.type_table.specs.Types.{Types}
use Rattle.module_arena.specs.declared.entry.LocalName.{LocalName}
use Rattle.module_arena.specs.Lists.{Lists}
use Rattle.record_table.specs.Faults.{Records, no_more, a_block, a_record}
use Rattle.record_table.specs.Fields.{Texts}
use Rattle.record_table.specs.Walk.{going}
use Rattle.record_read.specs.Entries.{IsBefore, Gives}
use Rattle.record_read.specs.declared.entry.NextEntry.TheVariants.{Block, Record, End}
use Rattle.record_read.specs.Reader.{Reader}
use Rattle.bitcode_read.specs.Head.Ahead.{one_where}
use Rattle.bitcode_read.proofs.OnHead.Finding.{GivesAll}
use Rattle.bitcode_read.specs.Ahead.Entries.{Declares, DeclaresBy, DeclaresOne, Declaring, a_function, a_variable, an_alias, declaring, entry_count, is_entry, nothing}

abbrev Names : Type 0
Names = List (List LocalName)

-- ---- one record

-- what holds behind names and entries holds behind the same
moved : (behind : Names → Lists → Type 0) (n m : Names) (a b : Lists) → n ≡ m → a ≡ b → behind n a → behind m b
moved behind n m a b names entries h = subst (λ x. behind x b) names (subst (λ y. behind n y) entries h)

module _ (texts : Texts) (all : Names) (used : ℕ) (operands : List ℕ) (old new : Lists) where
  abbrev types : ℕ
  types = length old.table.types

  -- behind an entry that was declared others may be
  step_on : (final : Lists) (now : ℕ) (behind : Names → Lists → Type 0) (kind : Declaring) → DeclaresBy texts all used operands old kind (Some now) new → behind (drop now all) new → DeclaresOne texts types final (drop used all) old operands behind kind
  step_on final now behind a_variable d on = inr (moved behind _ _ _ _ (ap (λ n. drop n all) d.1) d.0 on)
  step_on final now behind a_function d on = inr (moved behind _ _ _ _ d.1 d.0 on)
  step_on final now behind an_alias d on = inr (moved behind _ _ _ _ (ap (λ n. drop n all) d.1) d.0 on)
  step_on final now behind nothing d on = moved behind _ _ _ _ (ap (λ n. drop n all) (same_Some now used d.0)) d.1 on

  -- behind one that was not none is
  step_last : (behind : Names → Lists → Type 0) (kind : Declaring) → DeclaresBy texts all used operands old kind None new → DeclaresOne texts types new (drop used all) old operands behind kind
  step_last behind a_variable d = inl d
  step_last behind a_function d = inl d
  step_last behind an_alias d = inl d
  step_last behind nothing d = absurd (none-some used d.0)

  -- the types stay
  step_table : (now : Option ℕ) (kind : Declaring) → DeclaresBy texts all used operands old kind now new → new.table ≡ old.table
  step_table (Some now) a_variable d = ap (λ (a : Lists). a.table) d.0
  step_table (Some now) a_function d = ap (λ (a : Lists). a.table) d.0
  step_table (Some now) an_alias d = ap (λ (a : Lists). a.table) d.0
  step_table (Some now) nothing d = ap (λ (a : Lists). a.table) d.1
  step_table None a_variable d = ap (λ (a : Lists). a.table) d.stays
  step_table None a_function d = ap (λ (a : Lists). a.table) d.stays
  step_table None an_alias d = ap (λ (a : Lists). a.table) d.stays
  step_table None nothing d = ap (λ (a : Lists). a.table) d.1

-- ---- so far

-- so many entries are declared, and as many as are due are to come
pub record IsDeclaring (texts : Texts) (all : Names) (first : Lists) (inside : Records) (others : List Piece) (used : ℕ) (a : Lists) (due : ℕ) (r : Reader) : Type 0 where
  pub rest : Records
  pub before : IsBefore r.left rest (ended ∷ others)
  pub due_are : due ≡ entry_count rest
  pub table : a.table ≡ first.table
  pub onward : (final : Lists) → Declares texts (length first.table.types) final (drop used all) a rest → Declares texts (length first.table.types) final all first inside

pub declares_none : (texts : Texts) (all : Names) (first : Lists) (inside : Records) (others : List Piece) (used due : ℕ) (r : Reader) → used ≡ 0 → due ≡ entry_count inside → IsBefore r.left inside (ended ∷ others) → IsDeclaring texts all first inside others used first due r
declares_none texts all first inside others used due r none due_are before =
    subst (λ n. IsDeclaring texts all first inside others n first due r) (sym none) (record { rest = inside; before = before; due_are = due_are; table = refl; onward = λ final h. h })

-- where no entry is to come none is declared
declares_over : (texts : Texts) (types : ℕ) (a : Lists) (names : Names) (rest : Records) → entry_count rest ≡ 0 → Declares texts types a names a rest
declares_over texts types a names no_more none = refl
declares_over texts types a names (a_block id inside behind) none = declares_over texts types a names behind none
declares_over texts types a names (a_record code operands behind) none = by (declaring code) none (declares_over texts types a names behind)
  where
    by : (kind : Declaring) → one_where (is_entry kind) + entry_count behind ≡ 0 → (entry_count behind ≡ 0 → Declares texts types a names a behind) → DeclaresOne texts types a names a operands (λ later after. Declares texts types a later after behind) kind
    by a_variable none on = absurd (omega arith)
    by a_function none on = absurd (omega arith)
    by an_alias none on = absurd (omega arith)
    by nothing none on = on (omega arith)

module _ (texts : Texts) (all : Names) (first : Lists) (inside : Records) (others : List Piece) (used : ℕ) (a : Lists) (due : ℕ) (r : Reader) (h : IsDeclaring texts all first inside others used a due r) where
  same_types : length a.table.types ≡ length first.table.types
  same_types = ap (λ (t : Types). length t.types) h.table

  abbrev Onward : Records → Type 0
  Onward rest = (final : Lists) → Declares texts (length first.table.types) final (drop used all) a rest → Declares texts (length first.table.types) final all first inside

  -- a block was passed over
  pub passed_block : (mid after : Reader) (id : ℕ) → GivesAll r (Block id) mid → ((held : Records) (rest : List Piece) → IsBefore mid.left held (ended ∷ rest) → after.left ≡ rest) → IsDeclaring texts all first inside others used a due after
  passed_block mid after id gives passes = by_rest h.rest h.due_are h.onward (gives h.rest (ended ∷ others) h.before)
    where
      by_rest : (rest : Records) → due ≡ entry_count rest → Onward rest → Gives rest r (Block id) mid (ended ∷ others) → IsDeclaring texts all first inside others used a due after
      by_rest no_more due_are onward g = absurd g
      by_rest (a_record code operands behind) due_are onward g = absurd g
      by_rest (a_block other held behind) due_are onward g =
          let in_front = g.2 in
          let left : after.left ≡ in_front.pieces = passes held in_front.pieces in_front.inside in
          record { rest = behind; before = subst (λ l. IsBefore l behind (ended ∷ others)) (sym left) in_front.behind; due_are = due_are; table = h.table; onward = onward }

  module _ (mid after : Reader) (code : ℕ) (new : Lists) (gives : GivesAll r (Record code) mid) (left : after.left ≡ mid.left) where
    -- an entry was declared, or there was none
    pub declared_one : (now later : ℕ) → later + one_where (is_entry (declaring code)) ≡ due → ((operands : List ℕ) → mid.walk ≡ going operands None → DeclaresBy texts all used operands a (declaring code) (Some now) new) → IsDeclaring texts all first inside others now new later after
    declared_one now later behind_it declares = by_rest h.rest h.due_are h.onward (gives h.rest (ended ∷ others) h.before)
      where
        fewer : (n m one some : ℕ) → n + one ≡ m → m ≡ one + some → n ≡ some
        fewer n m one some e f = omega arith

        by_rest : (rest : Records) → due ≡ entry_count rest → Onward rest → Gives rest r (Record code) mid (ended ∷ others) → IsDeclaring texts all first inside others now new later after
        by_rest no_more due_are onward g = absurd g
        by_rest (a_block id held behind) due_are onward g = absurd g
        by_rest (a_record other operands behind) due_are onward g =
            let d = declares operands g.2 in record {
              rest = behind;
              before = subst (λ l. IsBefore l behind (ended ∷ others)) (sym left) g.3;
              due_are = fewer later due (one_where (is_entry (declaring other))) (entry_count behind) (subst (λ c. later + one_where (is_entry (declaring c)) ≡ due) g.0 behind_it) due_are;
              table = step_table texts all used operands a new (Some now) (declaring code) d ∙ h.table;
              onward = λ final f. onward final
                  (subst (λ c. DeclaresOne texts (length first.table.types) final (drop used all) a operands (λ later next. Declares texts (length first.table.types) final later next behind) (declaring c)) g.0
                  (subst (λ n. DeclaresOne texts n final (drop used all) a operands (λ later next. Declares texts (length first.table.types) final later next behind) (declaring code)) same_types
                  (step_on texts all used operands a new final now (λ later next. Declares texts (length first.table.types) final later next behind) (declaring code) d f)));
            }

    -- none more is
    pub declared_last : ((operands : List ℕ) → mid.walk ≡ going operands None → DeclaresBy texts all used operands a (declaring code) None new) → Declares texts (length first.table.types) new all first inside
    declared_last declares = by_rest h.rest h.onward (gives h.rest (ended ∷ others) h.before)
      where
        by_rest : (rest : Records) → Onward rest → Gives rest r (Record code) mid (ended ∷ others) → Declares texts (length first.table.types) new all first inside
        by_rest no_more onward g = absurd g
        by_rest (a_block id held behind) onward g = absurd g
        by_rest (a_record other operands behind) onward g =
            onward new
            (subst (λ c. DeclaresOne texts (length first.table.types) new (drop used all) a operands (λ later next. Declares texts (length first.table.types) new later next behind) (declaring c)) g.0
            (subst (λ n. DeclaresOne texts n new (drop used all) a operands (λ later next. Declares texts (length first.table.types) new later next behind) (declaring code)) same_types
            (step_last texts all used operands a new (λ later next. Declares texts (length first.table.types) new later next behind) (declaring code) (declares operands g.2))))

  -- none is to come
  pub declared_over : due ≡ 0 → Declares texts (length first.table.types) a all first inside
  declared_over none = h.onward a (declares_over texts (length first.table.types) a (drop used all) h.rest (sym h.due_are ∙ none))

  -- the end of the block
  pub declared_all : (now : Reader) → GivesAll r End now → Declares texts (length first.table.types) a all first inside
  declared_all now gives = by_rest h.rest h.onward (gives h.rest (ended ∷ others) h.before)
    where
      by_rest : (rest : Records) → Onward rest → Gives rest r End now (ended ∷ others) → Declares texts (length first.table.types) a all first inside
      by_rest no_more onward g = onward a refl
      by_rest (a_block id held behind) onward g = absurd g
      by_rest (a_record code operands behind) onward g = absurd g
