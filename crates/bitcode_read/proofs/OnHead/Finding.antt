-- The module's block, sought among the blocks and records of a stream.
use Rattle.std.proofs.Common.{◌≡◌, ◌||◌, ℕ, Bool, true, false, cond, List, [], ◌∷◌, refl, sym, ap, subst, ◌∙◌}
use Rattle.std.specs.Prelude.{nat_eq}
use Rattle.std.proofs.lemmas.Bool.{eqb-true, false_from_ne_true}
use Rattle.bit_tree.specs.Pieces.{Piece, ended}
use Rattle.record_table.specs.Faults.{Records, no_more, a_block, a_record, module_id}
use Rattle.record_read.specs.Entries.{IsBefore, IsNearer, Gives}
use Rattle.record_read.specs.declared.entry.NextEntry.{NextEntry}
use Rattle.record_read.specs.declared.entry.NextEntry.TheVariants.{Block, Record, End}
use Rattle.record_read.specs.Reader.{Reader}
use Rattle.bitcode_read.specs.Head.Ahead.{FindsFirst, first_module, has_module}

-- an entry was given, with what is left
abbrev pub Gone : Reader → NextEntry → Reader → Type 0
Gone old entry new = (new.spent ≡ false) × IsNearer entry old.left new.left × ((all : Records) (others : List Piece) → IsBefore old.left all others → Gives all old entry new others)

pub gone : (old new : Reader) (given entry : NextEntry) → Gone old given new → given ≡ entry → Gone old entry new
gone old new given entry h is = subst (λ x. Gone old x new) is h

-- what is given in front of anything
abbrev pub GivesAll : Reader → NextEntry → Reader → Type 0
GivesAll old entry new = (all : Records) (others : List Piece) → IsBefore old.left all others → Gives all old entry new others

-- the module's block, if there is one, is among those that are left
pub record IsSought (all : Records) (r : Reader) : Type 0 where
  pub rest : Records
  pub before : IsBefore r.left rest []
  pub has : has_module all ≡ has_module rest
  pub first : first_module all ≡ first_module rest

pub sought_all : (all : Records) (r : Reader) → IsBefore r.left all [] → IsSought all r
sought_all all r before = record { rest = all; before = before; has = refl; first = refl }

-- another block was passed over
pub sought_block : (all : Records) (r now after : Reader) (id : ℕ) → IsSought all r → GivesAll r (Block id) now → (id ≡ 8 → ⊥) → ((held : Records) (rest : List Piece) → IsBefore now.left held (ended ∷ rest) → after.left ≡ rest) → IsSought all after
sought_block all r now after id h gives other passes = by_rest h.rest h.has h.first (gives h.rest [] h.before)
  where
    by_rest : (rest : Records) → has_module all ≡ has_module rest → first_module all ≡ first_module rest → Gives rest r (Block id) now [] → IsSought all after
    by_rest no_more has first g = absurd g
    by_rest (a_record code operands behind) has first g = absurd g
    by_rest (a_block given held behind) has first g =
        let in_front = g.2 in
        let left : after.left ≡ in_front.pieces = passes held in_front.pieces in_front.inside in
        let not_here : nat_eq given module_id ≡ false = false_from_ne_true (nat_eq given 8) (λ e. other (g.0 ∙ eqb-true given 8 e)) in
        record {
          rest = behind;
          before = subst (λ l. IsBefore l behind []) (sym left) in_front.behind;
          has = has ∙ ap (λ b. b || has_module behind) not_here;
          first = first ∙ ap (λ b. cond b held (first_module behind)) not_here;
        }

-- a record was passed over
pub sought_record : (all : Records) (r now : Reader) (code : ℕ) → IsSought all r → GivesAll r (Record code) now → IsSought all now
sought_record all r now code h gives = by_rest h.rest h.has h.first (gives h.rest [] h.before)
  where
    by_rest : (rest : Records) → has_module all ≡ has_module rest → first_module all ≡ first_module rest → Gives rest r (Record code) now [] → IsSought all now
    by_rest no_more has first g = absurd g
    by_rest (a_block id held behind) has first g = absurd g
    by_rest (a_record other operands behind) has first g = record { rest = behind; before = g.3; has = has; first = first }

-- it was found
pub found_here : (all : Records) (r now : Reader) (id : ℕ) → IsSought all r → GivesAll r (Block id) now → id ≡ 8 → FindsFirst true now all
found_here all r now id h gives is = by_rest h.rest h.has h.first (gives h.rest [] h.before)
  where
    by_rest : (rest : Records) → has_module all ≡ has_module rest → first_module all ≡ first_module rest → Gives rest r (Block id) now [] → FindsFirst true now all
    by_rest no_more has first g = absurd g
    by_rest (a_record code operands behind) has first g = absurd g
    by_rest (a_block given held behind) has first g =
        let in_front = g.2 in
        let here : nat_eq given module_id ≡ true = ap (λ n. nat_eq n 8) (sym g.0 ∙ is) in
        record {
          is = sym (has ∙ ap (λ b. b || has_module behind) here);
          before = λ yes. (in_front.pieces, subst (λ x. IsBefore now.left x (ended ∷ in_front.pieces)) (sym (first ∙ ap (λ b. cond b held (first_module behind)) here)) in_front.inside);
        }

-- there is none
pub found_none : (all : Records) (r now : Reader) → IsSought all r → GivesAll r End now → FindsFirst false now all
found_none all r now h gives = by_rest h.rest h.has (gives h.rest [] h.before)
  where
    by_rest : (rest : Records) → has_module all ≡ has_module rest → Gives rest r End now [] → FindsFirst false now all
    by_rest no_more has g = record { is = sym has; before = λ yes. absurd (cc) }
    by_rest (a_block id held behind) has g = absurd g
    by_rest (a_record code operands behind) has g = absurd g

-- in a stream without the block nothing stands in it
pub none_inside : (all : Records) → has_module all ≡ false → first_module all ≡ no_more
none_inside no_more h = refl
none_inside (a_record code operands behind) h = none_inside behind h
none_inside (a_block id inside behind) h = by (nat_eq id module_id) h (none_inside behind)
  where
    by : (b : Bool) → (b || has_module behind) ≡ false → (has_module behind ≡ false → first_module behind ≡ no_more) → cond b inside (first_module behind) ≡ no_more
    by true e on = absurd (cc)
    by false e on = on e
