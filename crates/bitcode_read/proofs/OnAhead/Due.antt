-- The bodies of a module's block as they are gone through ahead: what was gathered so far, and what is to come.
use Rattle.std.proofs.Common.{◌≡◌, ◌≤◌, ◌+◌, ℕ, suc, Bool, true, false, true≢false, cond, List, [], ◌∷◌, ◌++◌, Option, Some, None, length, slice_get, drop, is_some, refl, sym, ap, subst, ◌∙◌, arith, length-append}
use Rattle.std.proofs.lemmas.Bool.{false≢true}
use Rattle.std.proofs.lemmas.List.{append_assoc, append-nil}
use Rattle.std.proofs.lemmas.Option.{none-some, slice_get_within}
use Rattle.std.specs.Prelude.{nat_eq}
use Rattle.bit_tree.specs.Pieces.{Piece, ended}
use Rattle.record_table.specs.Faults.{Records, no_more, a_block, a_record, body_id}
use Rattle.record_table.specs.Fields.{Texts, Numbering}
use Rattle.record_table.specs.Layout.{judged}
use Rattle.record_table.specs.Walk.{Walk, going, stopped, told}
use Rattle.record_read.specs.Entries.{IsBefore, Gives}
use Rattle.record_read.specs.declared.entry.NextEntry.TheVariants.{Block, Record, End}
use Rattle.record_read.specs.Reader.{Reader, IsKept, is_broken}
use Rattle.body_read.specs.declared.ahead.ahead.BodyAhead.{BodyAhead}
use Rattle.body_read.specs.Ahead.Ahead.{AreVoids, IsAhead}
use Rattle.type_read.specs.Fields.{AreBelow}
use Rattle.bitcode_read.specs.Head.Fronts.{FunctionFields, ReadsFunction, function_front}
use Rattle.bitcode_read.specs.declared.head.fronts.FunctionFront.{FunctionFront}
use Rattle.bitcode_read.proofs.OnHead.Finding.{GivesAll}
use Rattle.bitcode_read.specs.Ahead.Bodies.{AddsBody, AddsDue, AddsIf, AddsIfBody, AddsWhere, AddsWhereBody, AddsWhereDue, Foresees, ForeseesBlock, ForeseesRecord, count_due, due_of}
use Rattle.bitcode_read.proofs.OnAhead.Dropped.{drop_append, drop_none, drop_some}

-- ---- a function's record

told_unbroken : (w : Walk) → told w ≡ None → is_broken w ≡ false
told_unbroken (going [] None) h = refl
told_unbroken (going [] (Some r)) h = absurd (cc)
told_unbroken (going (n ∷ rest) None) h = absurd (cc)
told_unbroken (going (n ∷ rest) (Some r)) h = absurd (cc)
told_unbroken (stopped None) h = refl
told_unbroken (stopped (Some r)) h = absurd (cc)

module _ (texts : Texts) (types : ℕ) (old r : Reader) (front : FunctionFront) (operands : List ℕ) (h : ReadsFunction texts types old r front) (at : old.walk ≡ going operands None) where
  abbrev read : FunctionFields × Option ℕ
  read = judged (function_front texts types) operands

  told_is : told r.walk ≡ read.1
  told_is = ap told (ap (λ (q : Reader). q.walk) h.reader ∙ ap (λ w. ((function_front texts types).read w).1) at)

  -- one that breaks a rule adds none
  pub broken_adds : (due : List ℕ) → is_some (told r.walk) ≡ true → AddsDue read due due
  broken_adds due some = record { more = λ none. absurd (never (told r.walk) (told_is ∙ none) some); fewer = omega arith }
    where
      never : (o : Option ℕ) → o ≡ None → is_some o ≡ true → ⊥
      never None e h = false≢true h
      never (Some x) e h = none-some x (sym e)

  -- where none is told, none is broken
  unbroken_is : read.1 ≡ None → is_broken r.walk ≡ false
  unbroken_is none = told_unbroken r.walk (told_is ∙ none)

  count_is : read.1 ≡ None → count_due front.defined front.parameters ≡ due_of read.0
  count_is none =
      by front.defined read.0.1.1.0 front.parameters (h.defined ∙ ap (λ w. ((function_front texts types).read w).0.1.1.0) at)
      (subst (λ w. IsKept (AreBelow types) front.parameters ((function_front texts types).read w).0.1.1.1.1.1 r.walk) at h.parameters)
    where
      by : (d e : Bool) (ps : Option (List ℕ)) → d ≡ e → IsKept (AreBelow types) ps read.0.1.1.1.1.1 r.walk → count_due d ps ≡ cond e (length read.0.1.1.1.1.1 ∷ []) []
      by true true (Some ps) same kept = ap (λ (l : List ℕ). length l ∷ []) kept.0
      by true true None same kept = absurd (true≢false (sym kept ∙ unbroken_is none))
      by true false ps same kept = absurd (true≢false same)
      by false true ps same kept = absurd (false≢true same)
      by false false ps same kept = refl

  -- else one more, if it is defined
  pub counted_adds : (due new : List ℕ) (count : List ℕ) → count ≡ count_due front.defined front.parameters → new ≡ due ++ count → AddsDue read due new
  counted_adds due new count is more = record {
    more = λ none. more ∙ ap (λ l. due ++ l) (is ∙ count_is none);
    fewer = let many : length new ≡ length due + length count = ap length more ∙ length-append due count in omega arith;
  }

-- ---- a body

-- one body more is known, where one is due
pub one_due : (texts : Texts) (voids : List Bool) (due : List ℕ) (held : Records) (old new : List BodyAhead) (count place : ℕ) (body : BodyAhead) → Some count ≡ slice_get due place → place ≡ length old → new ≡ old ++ body ∷ []
    → ((k : Numbering) → AreVoids voids k → IsAhead texts k count held body) → AddsBody texts voids due held old new
one_due texts voids due held old new count place body at is more ahead =
    subst (λ (o : Option ℕ). AddsWhereDue o texts voids held old new) (at ∙ ap (λ n. slice_get due n) is) (record { body = body; more = more; ahead = ahead })

-- none is, where none is due
pub none_due : (texts : Texts) (voids : List Bool) (due : List ℕ) (held : Records) (old : List BodyAhead) (place : ℕ) → None ≡ slice_get due place → place ≡ length old → AddsBody texts voids due held old old
none_due texts voids due held old place at is = subst (λ (o : Option ℕ). AddsWhereDue o texts voids held old old) (at ∙ ap (λ n. slice_get due n) is) refl

-- ---- so far

-- what is foreseen behind goes on from what was gathered in front
abbrev Onward : Texts → ℕ → List Bool → Records → List BodyAhead → (Numbering → List BodyAhead → Type 0) → Type 0
Onward texts types voids inside bodies later = (k : Numbering) → AreVoids voids k → (final : List BodyAhead) → later k final → Foresees texts k types [] (bodies ++ final) inside

pub record IsGathering (texts : Texts) (types : ℕ) (voids : List Bool) (inside : Records) (others : List Piece) (due : List ℕ) (bodies : List BodyAhead) (r : Reader) : Type 0 where
  pub rest : Records
  pub before : IsBefore r.left rest (ended ∷ others)
  pub fewer : length bodies ≤ length due
  pub onward : (k : Numbering) → AreVoids voids k → (final : List BodyAhead) → Foresees texts k types (drop (length bodies) due) final rest → Foresees texts k types [] (bodies ++ final) inside

pub gathers_none : (texts : Texts) (types : ℕ) (voids : List Bool) (inside : Records) (others : List Piece) (due : List ℕ) (bodies : List BodyAhead) (r : Reader) → due ≡ [] → bodies ≡ [] → IsBefore r.left inside (ended ∷ others)
    → IsGathering texts types voids inside others due bodies r
gathers_none texts types voids inside others due bodies r no_due no_bodies before =
    subst (λ d. IsGathering texts types voids inside others d bodies r) (sym no_due)
    (subst (λ b. IsGathering texts types voids inside others [] b r) (sym no_bodies) (record { rest = inside; before = before; fewer = omega arith; onward = λ k are final h. h }))

module _ (texts : Texts) (types : ℕ) (voids : List Bool) (inside : Records) (others : List Piece) (due : List ℕ) (bodies : List BodyAhead) (r : Reader) (h : IsGathering texts types voids inside others due bodies r) where
  abbrev front_read : List ℕ → FunctionFields × Option ℕ
  front_read operands = judged (function_front texts types) operands

  -- a record was read
  pub gathered_record : (now : List ℕ) (mid after : Reader) (code : ℕ) → GivesAll r (Record code) mid → ((operands : List ℕ) → mid.walk ≡ going operands None → AddsIf code (front_read operands) due now) → after.left ≡ mid.left
      → IsGathering texts types voids inside others now bodies after
  gathered_record now mid after code gives adds left = by_rest h.rest h.onward (gives h.rest (ended ∷ others) h.before)
    where
      by_code : (b : Bool) (operands : List ℕ) (behind : Records)
          → Onward texts types voids inside bodies (λ k final. ForeseesRecord texts k types (drop (length bodies) due) final operands (λ due' bodies'. Foresees texts k types due' bodies' behind) b)
          → AddsWhere b (front_read operands) due now → IsBefore after.left behind (ended ∷ others) → IsGathering texts types voids inside others now bodies after
      by_code false operands behind onward same before = record {
        rest = behind;
        before = before;
        fewer = subst (λ (d : List ℕ). length bodies ≤ length d) (sym same) h.fewer;
        onward = λ k are final f. onward k are final (subst (λ d. Foresees texts k types (drop (length bodies) d) final behind) same f);
      }
      by_code true operands behind onward more before = record {
        rest = behind;
        before = before;
        fewer = let le = h.fewer in let ge = more.fewer in omega arith;
        onward = λ k are final f. onward k are final
            (λ none. subst (λ d. Foresees texts k types d final behind) (ap (λ l. drop (length bodies) l) (more.more none) ∙ drop_append due (due_of (front_read operands).0) (length bodies) h.fewer) f);
      }

      by_rest : (rest : Records) → Onward texts types voids inside bodies (λ k final. Foresees texts k types (drop (length bodies) due) final rest) → Gives rest r (Record code) mid (ended ∷ others) → IsGathering texts types voids inside others now bodies after
      by_rest no_more onward g = absurd g
      by_rest (a_block id held behind) onward g = absurd g
      by_rest (a_record other operands behind) onward g =
          by_code (nat_eq other 6) operands behind onward (subst (λ c. AddsWhere (nat_eq c 6) (front_read operands) due now) g.0 (adds operands g.2)) (subst (λ l. IsBefore l behind (ended ∷ others)) (sym left) g.3)

  -- a block was gone through
  pub gathered_block : (now : List BodyAhead) (mid after : Reader) (id : ℕ) → GivesAll r (Block id) mid
      → ((held : Records) (rest : List Piece) → IsBefore mid.left held (ended ∷ rest) → AddsIfBody id texts voids due held bodies now × (after.left ≡ rest)) → IsGathering texts types voids inside others due now after
  gathered_block now mid after id gives adds = by_rest h.rest h.onward (gives h.rest (ended ∷ others) h.before)
    where
      stays : (behind : Records) → now ≡ bodies → IsBefore after.left behind (ended ∷ others) → Onward texts types voids inside bodies (λ k final. Foresees texts k types (drop (length bodies) due) final behind) → IsGathering texts types voids inside others due now after
      stays behind same before onward = subst (λ b. IsGathering texts types voids inside others due b after) (sym same) (record { rest = behind; before = before; fewer = h.fewer; onward = onward })

      last : (n : ℕ) {m : ℕ} → m ≡ n + 1 → m ≡ suc n
      last n e = omega arith

      by_due : (o : Option ℕ) (held behind : Records) → slice_get due (length bodies) ≡ o
          → Onward texts types voids inside bodies (λ k final. ForeseesBlock texts k types (drop (length bodies) due) final held (λ due' bodies'. Foresees texts k types due' bodies' behind) true)
          → AddsWhereDue o texts voids held bodies now → IsBefore after.left behind (ended ∷ others) → IsGathering texts types voids inside others due now after
      by_due None held behind at onward same before =
          stays behind same before
          (λ k are final f. onward k are final (subst (λ d. ForeseesBlock texts k types d final held (λ due' bodies'. Foresees texts k types due' bodies' behind) true) (sym (drop_none due (length bodies) at)) tt))
      by_due (Some count) held behind at onward one before =
          let many : length now ≡ suc (length bodies) = ap (λ (l : List BodyAhead). length l) one.more ∙ last (length bodies) (length-append bodies (one.body ∷ [])) in
          record {
            rest = behind;
            before = before;
            fewer = let lt = slice_get_within due (length bodies) count at in omega arith;
            onward = λ k are final f.
                subst (λ b. Foresees texts k types [] b inside) (sym (ap (λ l. l ++ final) one.more ∙ append_assoc bodies (one.body ∷ []) final))
                (onward k are (one.body ∷ final)
                (subst (λ d. ForeseesBlock texts k types d (one.body ∷ final) held (λ due' bodies'. Foresees texts k types due' bodies' behind) true) (sym (drop_some due (length bodies) count at))
                (one.ahead k are, subst (λ n. Foresees texts k types (drop n due) final behind) many f)));
          }

      by_id : (b : Bool) (held behind : Records) → Onward texts types voids inside bodies (λ k final. ForeseesBlock texts k types (drop (length bodies) due) final held (λ due' bodies'. Foresees texts k types due' bodies' behind) b)
          → AddsWhereBody b texts voids due held bodies now → IsBefore after.left behind (ended ∷ others) → IsGathering texts types voids inside others due now after
      by_id false held behind onward same before = stays behind same before onward
      by_id true held behind onward one before = by_due (slice_get due (length bodies)) held behind refl onward one before

      by_rest : (rest : Records) → Onward texts types voids inside bodies (λ k final. Foresees texts k types (drop (length bodies) due) final rest) → Gives rest r (Block id) mid (ended ∷ others) → IsGathering texts types voids inside others due now after
      by_rest no_more onward g = absurd g
      by_rest (a_record code operands behind) onward g = absurd g
      by_rest (a_block other held behind) onward g =
          let in_front = g.2 in
          let one = adds held in_front.pieces in_front.inside in
          by_id (nat_eq other body_id) held behind onward (subst (λ n. AddsWhereBody (nat_eq n body_id) texts voids due held bodies now) g.0 one.0) (subst (λ l. IsBefore l behind (ended ∷ others)) (sym one.1) in_front.behind)

  -- the end of the block
  pub gathers_all : (now : Reader) → GivesAll r End now → (k : Numbering) → AreVoids voids k → Foresees texts k types [] bodies inside
  gathers_all now gives k are = by_rest h.rest h.onward (gives h.rest (ended ∷ others) h.before)
    where
      by_rest : (rest : Records) → Onward texts types voids inside bodies (λ k final. Foresees texts k types (drop (length bodies) due) final rest) → Gives rest r End now (ended ∷ others) → Foresees texts k types [] bodies inside
      by_rest no_more onward g = subst (λ b. Foresees texts k types [] b inside) (append-nil bodies) (onward k are [] tt)
      by_rest (a_block id held behind) onward g = absurd g
      by_rest (a_record code operands behind) onward g = absurd g
