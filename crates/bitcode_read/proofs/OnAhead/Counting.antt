-- The records of a module's block that declare entries: so many were counted, and so many are to come.
use Rattle.std.proofs.Common.{◌≡◌, ◌+◌, ℕ, Bool, true, false, true≢false, cond, List, ◌∷◌, refl, sym, ap, subst, ◌∙◌, arith}
use Rattle.std.specs.Prelude.{nat_eq}
use Rattle.bit_tree.specs.Pieces.{Piece, ended}
use Rattle.record_table.specs.Faults.{Records, no_more, a_block, a_record}
use Rattle.record_read.specs.Entries.{IsBefore, Gives}
use Rattle.record_read.specs.declared.entry.NextEntry.TheVariants.{Block, Record, End}
use Rattle.record_read.specs.Reader.{Reader}
use Rattle.bitcode_read.specs.Head.Ahead.{one_where}
use Rattle.bitcode_read.proofs.OnHead.Finding.{GivesAll}
use Rattle.bitcode_read.specs.Ahead.Entries.{a_function, a_variable, an_alias, declaring, entry_count, is_entry, nothing}
use Rattle.bitcode_read.proofs.OnAhead.FrontsDeclared.{not_code}

-- ---- by its code

pub variable_is : (code : ℕ) → code ≡ 5 → true ≡ is_entry (declaring code)
variable_is code is = subst (λ c. true ≡ is_entry (declaring c)) (sym is) refl

pub function_is : (code : ℕ) → code ≡ 6 → true ≡ is_entry (declaring code)
function_is code is = subst (λ c. true ≡ is_entry (declaring c)) (sym is) refl

pub alias_is : (code : ℕ) → (code ≡ 5 → ⊥) → (code ≡ 6 → ⊥) → nat_eq code 7 ≡ is_entry (declaring code)
alias_is code v f = by (nat_eq code 5) (nat_eq code 6) (nat_eq code 7) (not_code code 5 v) (not_code code 6 f)
  where
    by : (a b c : Bool) → a ≡ false → b ≡ false → c ≡ is_entry (cond a a_variable (cond b a_function (cond c an_alias nothing)))
    by true b c x y = absurd (true≢false x)
    by false true c x y = absurd (true≢false y)
    by false false true x y = refl
    by false false false x y = refl

-- ---- so far

-- so many were counted, and `rest` is to come
pub record IsCounting (inside : Records) (others : List Piece) (count : ℕ) (r : Reader) : Type 0 where
  pub rest : Records
  pub before : IsBefore r.left rest (ended ∷ others)
  pub sum : entry_count inside ≡ count + entry_count rest

pub counts_none : (inside : Records) (others : List Piece) (count : ℕ) (r : Reader) → count ≡ 0 → IsBefore r.left inside (ended ∷ others) → IsCounting inside others count r
counts_none inside others count r none before = record { rest = inside; before = before; sum = from (entry_count inside) none }
  where
    from : (n : ℕ) {m : ℕ} → m ≡ 0 → n ≡ m + n
    from n e = omega arith

module _ (inside : Records) (others : List Piece) (count : ℕ) (r : Reader) (h : IsCounting inside others count r) where
  -- a record was counted
  pub counted_record : (now : ℕ) (mid after : Reader) (code : ℕ) → GivesAll r (Record code) mid → now ≡ count + one_where (is_entry (declaring code)) → after.left ≡ mid.left → IsCounting inside others now after
  counted_record now mid after code gives is left = by_rest h.rest h.sum (gives h.rest (ended ∷ others) h.before)
    where
      on : (n old now one later : ℕ) → n ≡ old + (one + later) → now ≡ old + one → n ≡ now + later
      on n old now one later e f = omega arith

      by_rest : (rest : Records) → entry_count inside ≡ count + entry_count rest → Gives rest r (Record code) mid (ended ∷ others) → IsCounting inside others now after
      by_rest no_more sum g = absurd g
      by_rest (a_block id held behind) sum g = absurd g
      by_rest (a_record other operands behind) sum g = record {
        rest = behind;
        before = subst (λ l. IsBefore l behind (ended ∷ others)) (sym left) g.3;
        sum = on (entry_count inside) count now (one_where (is_entry (declaring other))) (entry_count behind) sum (is ∙ ap (λ c. count + one_where (is_entry (declaring c))) g.0);
      }

  -- a block was gone through
  pub counted_block : (mid after : Reader) (id : ℕ) → GivesAll r (Block id) mid → ((held : Records) (later : List Piece) → IsBefore mid.left held (ended ∷ later) → after.left ≡ later) → IsCounting inside others count after
  counted_block mid after id gives passes = by_rest h.rest h.sum (gives h.rest (ended ∷ others) h.before)
    where
      by_rest : (rest : Records) → entry_count inside ≡ count + entry_count rest → Gives rest r (Block id) mid (ended ∷ others) → IsCounting inside others count after
      by_rest no_more sum g = absurd g
      by_rest (a_record code operands behind) sum g = absurd g
      by_rest (a_block other held behind) sum g =
          let in_front = g.2 in
          let left : after.left ≡ in_front.pieces = passes held in_front.pieces in_front.inside in
          record { rest = behind; before = subst (λ l. IsBefore l behind (ended ∷ others)) (sym left) in_front.behind; sum = sum }

  -- the end of the block
  pub counts_all : (now : Reader) → GivesAll r End now → count ≡ entry_count inside
  counts_all now gives = by_rest h.rest h.sum (gives h.rest (ended ∷ others) h.before)
    where
      none_left : (n m : ℕ) → n ≡ m + 0 → m ≡ n
      none_left n m e = omega arith

      by_rest : (rest : Records) → entry_count inside ≡ count + entry_count rest → Gives rest r End now (ended ∷ others) → count ≡ entry_count inside
      by_rest no_more sum g = none_left (entry_count inside) count sum
      by_rest (a_block id held behind) sum g = absurd g
      by_rest (a_record code operands behind) sum g = absurd g
