-- Records and blocks that are written one behind the other.
use Rattle.std.proofs.Common.{◌≡◌, ℕ, ◌+◌, ◌-◌, ◌<◌, ◌≤◌, Bool, true, false, Ok, List, [], ◌∷◌, ◌++◌, length, drop, get_or, refl, sym, ap, ◌∙◌, subst, arith}
use Rattle.std.proofs.Common.{Result, Err, OnOk}
use Rattle.std.proofs.lemmas.List.{at_drop_more, at_drop_all, length-append, take_at}
use Rattle.std.proofs.lemmas.Bool.{true≢false}
use Rattle.bit_stream.specs.Writer.{Writer, Writes, enter, end_block, define, put_record, abbreviated, id_bits}
use Rattle.bit_stream.specs.Spelling.{chunks, aligned}
use Rattle.bit_tree.specs.Written.{Written, no_more, a_block, a_definition, a_record, a_short_record, written}
use Rattle.record_table.specs.Faults.{body_id}
use Rattle.record_table.specs.Spelling.{Line, put, put_block, put_bodies}
use Rattle.bitcode_write.specs.Put.{IsOpen, Puts, PutsLines}

-- what is written of a list of records in two parts
pub put_append : (xs ys : List Line) (behind : Written) → put (xs ++ ys) behind ≡ put xs (put ys behind)
put_append [] ys behind = refl
put_append (x ∷ xs) ys behind = ap (λ (w : Written). a_record x.0 x.1 w) (put_append xs ys behind)

-- what is written behind records
pub written_put : (w : Writer) (xs : List Line) (behind : Written) → written w (put xs behind) ≡ written (written w (put xs no_more)) behind
unfolding written
written_put w [] behind = refl
written_put w (x ∷ xs) behind = written_put (put_record w x.0 x.1) xs behind

-- a block that is ended leaves the blocks around it
pub around_ended : (w : Writer) (id width : ℕ) (x : Writer) → x.around ≡ (enter w id width).around → (end_block x).around ≡ w.around
around_ended w id width x same =
    let outer = aligned (w.bits ++ id_bits w 1 ++ chunks 8 id ++ chunks 4 width) in
    let size : length x.around - 1 ≡ length w.around = omega (arith, ap length same, length-append w.around (outer ∷ [])) in
    rw (size, same) (take_at w.around (outer ∷ []) (length w.around) refl)

-- what is written changes no block around
pub around_kept : (more : Written) (w : Writer) → (written w more).around ≡ w.around
unfolding written
around_kept no_more w = refl
around_kept (a_block id width inside behind) w =
    around_kept behind (end_block (written (enter w id width) inside)) ∙ around_ended w id width (written (enter w id width) inside) (around_kept inside (enter w id width))
around_kept (a_definition ops behind) w = around_kept behind (define w ops)
around_kept (a_record code ns behind) w = around_kept behind (put_record w code ns)
around_kept (a_short_record id code ns behind) w = around_kept behind (abbreviated w id code ns)

-- and spends no writer
pub spent_kept : (more : Written) (w : Writer) → (written w more).spent ≡ w.spent
unfolding written
spent_kept no_more w = refl
spent_kept (a_block id width inside behind) w = spent_kept behind (end_block (written (enter w id width) inside)) ∙ spent_kept inside (enter w id width)
spent_kept (a_definition ops behind) w = spent_kept behind (define w ops)
spent_kept (a_record code ns behind) w = spent_kept behind (put_record w code ns)
spent_kept (a_short_record id code ns behind) w = spent_kept behind (abbreviated w id code ns)

-- what a call wrote that did not fail
pub wrote_ok : {X : Type 0} (E : Type 0) (spent : Bool) (old expected : Writer) (x : X) (new : Writer) → spent ≡ false → Writes {X = X} {E = E} spent old expected (Ok x) new → new ≡ expected
wrote_ok E true old expected x new unspent h = absurd (true≢false unspent)
wrote_ok E false old expected x new unspent h = h

-- ---- records

pub lines_none : (w : Writer) → IsOpen w → PutsLines w [] w
unfolding written
lines_none w ready = record { put = refl; ready = ready }

pub lines_one : (w : Writer) (code : ℕ) (ns : List ℕ) (new : Writer) → IsOpen w → new ≡ put_record w code ns → PutsLines w ((code, ns) ∷ []) new
unfolding written
lines_one w code ns new ready is = record { put = is; ready = rw is (record { unspent = ready.unspent; inside = ready.inside }) }

-- more records
pub lines_then : {a b c : Writer} (xs ys : List Line) → PutsLines a xs b → PutsLines b ys c → PutsLines a (xs ++ ys) c
lines_then {a = a} {b = b} {c = c} xs ys h k = record {
  put = k.put ∙ ap (λ (w : Writer). written w (put ys no_more)) h.put ∙ sym (written_put a xs (put ys no_more)) ∙ ap (written a) (sym (put_append xs ys no_more));
  ready = k.ready;
}

-- a record in other words
pub lines_as : {a b : Writer} (code other : ℕ) (ns others : List ℕ) → PutsLines a ((code, ns) ∷ []) b → code ≡ other → ns ≡ others → PutsLines a ((other, others) ∷ []) b
lines_as {a = a} {b = b} code other ns others h e f = subst (λ (line : Line). PutsLines a (line ∷ []) b) (λ j. (e j, f j)) h

-- the same of a call that may fail
pub put_as : {E : Type 0} (r : Result (Unit {0}) E) (a b : Writer)
    (code other : ℕ) (ns others : List ℕ)
    → OnOk r (PutsLines a ((code, ns) ∷ []) b) → code ≡ other → ns ≡ others
    → OnOk r (PutsLines a ((other, others) ∷ []) b)
put_as (Ok u) a b code other ns others h e f = lines_as code other ns others h e f
put_as (Err x) a b code other ns others h e f = tt

-- records before those of a call that may fail
pub then_put : {E : Type 0} (r : Result (Unit {0}) E) (a b c : Writer)
    (xs ys : List Line) → PutsLines a xs b → OnOk r (PutsLines b ys c)
    → OnOk r (PutsLines a (xs ++ ys) c)
then_put (Ok u) a b c xs ys h k = lines_then xs ys h k
then_put (Err x) a b c xs ys h k = tt

-- whatever is written behind records
pub lines_before : {a b c : Writer} (xs : List Line) (more : Written) → PutsLines a xs b → Puts b more c → Puts a (put xs more) c
lines_before {a = a} {b = b} {c = c} xs more h k = record {
  put = k.put ∙ ap (λ (w : Writer). written w more) h.put ∙ sym (written_put a xs more);
  ready = k.ready;
}

-- the same records
pub lines_same : {a b : Writer} {xs ys : List Line} → xs ≡ ys → PutsLines a xs b → PutsLines a ys b
lines_same {a = a} {b = b} e h = subst (λ (zs : List Line). PutsLines a zs b) e h

-- records of several things, one thing behind the other
module _ {A : Type 0} (line : A → List Line) (all : List A → List Line) (none : all [] ≡ []) (more : (x : A) (xs : List A) → all (x ∷ xs) ≡ line x ++ all xs) where
  -- one thing more
  pub things_more : (xs : List A) (place : ℕ) (x : A) {u v w : Writer} → place < length xs → x ≡ get_or xs place x → PutsLines u (line x) v → PutsLines v (all (drop (place + 1) xs)) w → PutsLines u (all (drop place xs)) w
  things_more xs place x lt read h k =
      let rest = drop (place + 1) xs in
      lines_same (sym (more x rest) ∙ ap (λ (y : A). all (y ∷ rest)) read ∙ sym (at_drop_more all xs place x lt)) (lines_then (line x) (all rest) h k)

  -- at the end none is left
  pub things_end : (xs : List A) (place : ℕ) (now : Writer) → length xs ≤ place → IsOpen now → PutsLines now (all (drop place xs)) now
  things_end xs place now le ready = lines_same (sym none ∙ sym (at_drop_all all xs place le)) (lines_none now ready)

-- ---- blocks

-- a block is entered
pub entered_open : (w : Writer) (id : ℕ) (new : Writer) → w.spent ≡ false → new ≡ enter w id 3 → IsOpen new
entered_open w id new unspent is =
    let outer = aligned (w.bits ++ id_bits w 1 ++ chunks 8 id ++ chunks 4 3) in
    rw is (record { unspent = unspent; inside = omega (arith, length-append w.around (outer ∷ [])) })

-- a block is left
pub left_open : {a b c d : Writer} (id : ℕ) (inside : Written) → IsOpen a → b ≡ enter a id 3 → Puts b inside c → d ≡ end_block c → IsOpen d
left_open {a = a} {b = b} {c = c} {d = d} id inside ready entered puts ended =
    let same : c.around ≡ (enter a id 3).around = ap (λ (w : Writer). w.around) puts.put ∙ around_kept inside b ∙ ap (λ (w : Writer). w.around) entered in
    let back : d.around ≡ a.around = ap (λ (w : Writer). w.around) ended ∙ around_ended a id 3 c same in
    record { unspent = ap (λ (w : Writer). w.spent) ended ∙ puts.ready.unspent; inside = rw back ready.inside }

-- a block in a block, and what is written behind it
pub block_before : {a b c d e : Writer} (id : ℕ) (inside more : Written) → b ≡ enter a id 3 → Puts b inside c → d ≡ end_block c → Puts d more e → Puts a (put_block id inside more) e
unfolding written
block_before {a = a} {b = b} {c = c} {d = d} {e = e} id inside more entered puts ended rest = record {
  put = rest.put ∙ ap (λ (w : Writer). written w more) (ended ∙ ap end_block (puts.put ∙ ap (λ (w : Writer). written w inside) entered));
  ready = rest.ready;
}

pub none_put : (w : Writer) → IsOpen w → Puts w no_more w
unfolding written
none_put w ready = record { put = refl; ready = ready }

-- ---- bodies

pub bodies_append : (xs ys : List (List Line)) (behind : Written) → put_bodies (xs ++ ys) behind ≡ put_bodies xs (put_bodies ys behind)
bodies_append [] ys behind = refl
bodies_append (x ∷ xs) ys behind = ap (λ (w : Written). put_block body_id (put x no_more) w) (bodies_append xs ys behind)

written_bodies : (w : Writer) (xs : List (List Line)) (behind : Written) → written w (put_bodies xs behind) ≡ written (written w (put_bodies xs no_more)) behind
unfolding written
written_bodies w [] behind = refl
written_bodies w (x ∷ xs) behind = written_bodies (end_block (written (enter w body_id 3) (put x no_more))) xs behind

-- whatever is written behind bodies
pub bodies_before : {a b c : Writer} (xs : List (List Line)) (more : Written) → Puts a (put_bodies xs no_more) b → Puts b more c → Puts a (put_bodies xs more) c
bodies_before {a = a} {b = b} {c = c} xs more h k = record {
  put = k.put ∙ ap (λ (w : Writer). written w more) h.put ∙ sym (written_bodies a xs more);
  ready = k.ready;
}

-- bodies of several functions, one function behind the other
module _ {A : Type 0} (bodies : List A → List (List Line)) (none : bodies [] ≡ []) (more : (x : A) (xs : List A) → bodies (x ∷ xs) ≡ bodies (x ∷ []) ++ bodies xs) where
  pub bodies_more : (xs : List A) (place : ℕ) (x : A) {u v w : Writer} → place < length xs → x ≡ get_or xs place x → Puts u (put_bodies (bodies (x ∷ [])) no_more) v
      → Puts v (put_bodies (bodies (drop (place + 1) xs)) no_more) w → Puts u (put_bodies (bodies (drop place xs)) no_more) w
  bodies_more xs place x {u = u} {w = w} lt read h k =
      let rest = drop (place + 1) xs in
      let same : put_bodies (bodies (x ∷ [])) (put_bodies (bodies rest) no_more) ≡ put_bodies (bodies (drop place xs)) no_more =
      sym (bodies_append (bodies (x ∷ [])) (bodies rest) no_more)
      ∙ ap (λ (ls : List (List Line)). put_bodies ls no_more) (sym (more x rest) ∙ ap (λ (y : A). bodies (y ∷ rest)) read ∙ sym (at_drop_more bodies xs place x lt)) in
      subst (λ (all : Written). Puts u all w) same (bodies_before (bodies (x ∷ [])) (put_bodies (bodies rest) no_more) h k)

  pub bodies_end : (xs : List A) (place : ℕ) (now : Writer) → length xs ≤ place → IsOpen now → Puts now (put_bodies (bodies (drop place xs)) no_more) now
  bodies_end xs place now le ready =
      subst (λ (ls : List (List Line)). Puts now (put_bodies ls no_more) now) (sym none ∙ sym (at_drop_all bodies xs place le)) (none_put now ready)
