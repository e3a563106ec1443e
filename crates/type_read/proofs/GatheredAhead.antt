-- A block of types as it is gone through ahead: what was gathered so far, and what is to come.
use Rattle.std.proofs.Common.{◌≡◌, ℕ, Bool, false, true, cond, List, [], ◌∷◌, ◌++◌, None, refl, sym, ap, subst, ◌∙◌, arith}
use Rattle.std.specs.Prelude.{nat_eq}
use Rattle.std.proofs.lemmas.List.{append_assoc, append-nil}
use Rattle.bit_tree.specs.Pieces.{Piece, ended}
use Rattle.module_arena.specs.Lists.{Lists, no_lists}
use Rattle.module_arena.specs.Module.{Bytes}
use Rattle.record_table.specs.Fields.{Texts}
use Rattle.record_table.specs.Faults.{Records, no_more, a_block, a_record}
use Rattle.record_table.specs.Walk.{going}
use Rattle.record_table.specs.Layout.{judged}
use Rattle.record_table.specs.TypeRecords.{names_in, definition}
use Rattle.record_read.specs.Entries.{IsBefore, IsNearer, Gives}
use Rattle.record_read.specs.declared.entry.NextEntry.{NextEntry}
use Rattle.record_read.specs.declared.entry.NextEntry.TheVariants.{Block, Record, End}
use Rattle.record_read.specs.Reader.{Reader}
use Rattle.type_read.specs.Listed.{AreGathered, GathersRecord, voids_in, void_of}
use Rattle.type_read.specs.declared.structs.TypesAhead.{TypesAhead}

-- these names and voids were gathered, and `rest` is to come
pub record IsGathering (t : Texts) (inside : Records) (others : List Piece) (a : Lists) (ahead : TypesAhead) (r : Reader) : Type 0 where
  pub rest : Records
  pub before : IsBefore r.left rest (ended ∷ others)
  pub all : List Bytes
  pub names : names_in t inside ≡ all ++ names_in t rest
  pub gathered : AreGathered a ahead.structs all
  pub voids : voids_in inside ≡ ahead.voids.items ++ voids_in rest

-- an entry was given, with what is left
abbrev pub Gone : Reader → NextEntry → Reader → Type 0
Gone old entry new = (new.spent ≡ false) × IsNearer entry old.left new.left × ((all : Records) (others : List Piece) → IsBefore old.left all others → Gives all old entry new others)

pub gone : (old new : Reader) (given entry : NextEntry) → Gone old given new → given ≡ entry → Gone old entry new
gone old new given entry h is = subst (λ x. Gone old x new) is h

-- nothing is gathered yet
pub gathers_none : (t : Texts) (inside : Records) (others : List Piece) (ahead : TypesAhead) (a : Lists) (r : Reader) → a ≡ no_lists → ahead.structs.count ≡ 0 → ahead.structs.first_bad ≡ None → ahead.voids.items ≡ []
    → IsBefore r.left inside (ended ∷ others) → IsGathering t inside others a ahead r
gathers_none t inside others ahead a r empty count bad voids before = record {
  rest = inside;
  before = before;
  all = [];
  names = refl;
  gathered = record { count = count; few = omega arith; first_bad = rw bad refl; named = λ none. empty };
  voids = ap (λ (l : List Bool). l ++ voids_in inside) (sym voids);
}

-- a block that was passed over
pub passed : (t : Texts) (inside : Records) (others : List Piece) (a : Lists) (ahead : TypesAhead) (r now after : Reader) (id : ℕ) → IsGathering t inside others a ahead r
    → ((all : Records) (rest : List Piece) → IsBefore r.left all rest → Gives all r (Block id) now rest) → ((held : Records) (rest : List Piece) → IsBefore now.left held (ended ∷ rest) → after.left ≡ rest)
    → IsGathering t inside others a ahead after
passed t inside others a ahead r now after id h gives passes = by_rest h.rest h.names h.voids (gives h.rest (ended ∷ others) h.before)
  where
    by_rest : (rest : Records) → names_in t inside ≡ h.all ++ names_in t rest → voids_in inside ≡ ahead.voids.items ++ voids_in rest → Gives rest r (Block id) now (ended ∷ others) → IsGathering t inside others a ahead after
    by_rest no_more names voids g = absurd g
    by_rest (a_record code operands behind) names voids g = absurd g
    by_rest (a_block other held behind) names voids g =
        let in_front = g.2 in
        let left : after.left ≡ in_front.pieces = passes held in_front.pieces in_front.inside in
        record { rest = behind; before = subst (λ l. IsBefore l behind (ended ∷ others)) (sym left) in_front.behind; all = h.all; names = names; gathered = h.gathered; voids = voids }

-- a record that was gathered
pub gathered_one : (t : Texts) (inside : Records) (others : List Piece) (a new : Lists) (ahead made : TypesAhead) (r now after : Reader) (code : ℕ) → IsGathering t inside others a ahead r
    → ((all : Records) (rest : List Piece) → IsBefore r.left all rest → Gives all r (Record code) now rest)
    → ((operands : List ℕ) → now.walk ≡ going operands None → GathersRecord t code operands a ahead new made) → after.left ≡ now.left
    → IsGathering t inside others new made after
gathered_one t inside others a new ahead made r now after code h gives gathers left = by_rest h.rest h.names h.voids (gives h.rest (ended ∷ others) h.before)
  where
    by_rest : (rest : Records) → names_in t inside ≡ h.all ++ names_in t rest → voids_in inside ≡ ahead.voids.items ++ voids_in rest → Gives rest r (Record code) now (ended ∷ others) → IsGathering t inside others new made after
    by_rest no_more names voids g = absurd g
    by_rest (a_block id held behind) names voids g = absurd g
    by_rest (a_record other operands behind) names voids g =
        let one = gathers operands g.2 in
        let v : voids_in inside ≡ made.voids.items ++ voids_in behind =
        voids ∙ (ap (λ k. ahead.voids.items ++ (void_of k ++ voids_in behind)) (sym g.0) ∙ (sym (append_assoc ahead.voids.items (void_of code) (voids_in behind)) ∙ ap (λ (l : List Bool). l ++ voids_in behind) (sym one.1))) in
        record {
          rest = behind;
          before = subst (λ l. IsBefore l behind (ended ∷ others)) (sym left) g.3;
          all = cond (nat_eq code 7) (h.all ++ (judged (definition t 0) operands).0.1 ∷ []) h.all;
          names = names ∙ (ap (λ k. h.all ++ cond (nat_eq k 7) ((judged (definition t 0) operands).0.1 ∷ names_in t behind) (names_in t behind)) (sym g.0) ∙ moved (nat_eq code 7) h.all (judged (definition t 0) operands).0.1 (names_in t behind));
          gathered = one.0 h.all h.gathered;
          voids = v;
        }
      where
        moved : (b : Bool) (all : List Bytes) (x : Bytes) (later : List Bytes) → all ++ cond b (x ∷ later) later ≡ cond b (all ++ x ∷ []) all ++ later
        moved true all x later = sym (append_assoc all (x ∷ []) later)
        moved false all x later = refl

-- the end of the block
pub gathers_all : (t : Texts) (inside : Records) (others : List Piece) (a : Lists) (ahead : TypesAhead) (r now : Reader) → IsGathering t inside others a ahead r
    → ((all : Records) (rest : List Piece) → IsBefore r.left all rest → Gives all r End now rest)
    → AreGathered a ahead.structs (names_in t inside) × (ahead.voids.items ≡ voids_in inside) × (now.left ≡ others)
gathers_all t inside others a ahead r now h gives = by_rest h.rest h.names h.voids (gives h.rest (ended ∷ others) h.before)
  where
    by_rest : (rest : Records) → names_in t inside ≡ h.all ++ names_in t rest → voids_in inside ≡ ahead.voids.items ++ voids_in rest → Gives rest r End now (ended ∷ others)
        → AreGathered a ahead.structs (names_in t inside) × (ahead.voids.items ≡ voids_in inside) × (now.left ≡ others)
    by_rest no_more names voids g = (subst (AreGathered a ahead.structs) (sym (names ∙ append-nil h.all)) h.gathered, sym (voids ∙ append-nil ahead.voids.items), g.1)
    by_rest (a_block id held behind) names voids g = absurd g
    by_rest (a_record code operands behind) names voids g = absurd g
