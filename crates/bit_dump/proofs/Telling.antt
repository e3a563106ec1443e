-- A stream that is told, and how far.
use Rattle.std.proofs.Common.{◌≡◌, ℕ, ◌+◌, ◌≤◌, Bool, List, [], ◌∷◌, ◌++◌, length, take, Option, Result, Ok, Err, OnOk, sym, ap, ◌∙◌, inr, arith, append_assoc, length-append}
use Rattle.std.proofs.lemmas.List.{append-nil, take-append-le}
use Rattle.ir_base.specs.Outside.{Added, Wrote}
use Rattle.ir_base.proofs.Pieces.{added_more}
use Rattle.bit_tree.specs.Stream.{StreamTree, Stream}
use Rattle.bit_tree.specs.Pieces.{Piece, flat}
use Rattle.bit_dump.specs.Text.{dump_text, summary}
use Rattle.bit_dump.specs.Outline.{Outline, nothing_told, after, told, with_more, after_head, after_operand, after_operands, after_record, emptied, summed, front}
use Rattle.bit_dump.specs.Telling.{Tells, TookFront, Tried, Finished}
use Rattle.bit_dump.specs.declared.fault.DumpFault.{DumpFault}
use Rattle.bit_dump.specs.declared.fault.DumpFault.TheVariants.{Bit, WriteFault, Memory}
use Rattle.bit_dump.specs.Dumped.{WroteFront, Dumped}
use Rattle.bit_dump.proofs.Told.{after_front, grown, grows, more_front, head_front, operands_grow, record_told, summed_is}
use Rattle.bit_dump.proofs.Sinks.{added_none, front_is}

-- one step more, which a text in front does not change
pub told_more : (before now : Option (List ℕ)) (all o later : Outline) (step : Outline → Outline) → ((w : List ℕ) → step (front w o) ≡ front w (step o)) → later ≡ step o → Tells before now all o → Tells before now (step all) later
told_more before now all o later step commutes is h = record {
  written = h.written;
  added = h.added;
  is = ap (λ (x : Outline). front h.written x) is ∙ (sym (commutes h.written) ∙ ap step h.is);
}

pub piece_more : (before now : Option (List ℕ)) (all o later : Outline) (p : Piece) → later ≡ after o p → Tells before now all o → Tells before now (after all p) later
piece_more before now all o later p is h = told_more before now all o later (λ x. after x p) (λ w. after_front w o p) is h

pub head_more : (before now : Option (List ℕ)) (all o later : Outline) (id code : ℕ) → later ≡ after_head o id code → Tells before now all o → Tells before now (after_head all id code) later
head_more before now all o later id code is h = told_more before now all o later (λ x. after_head x id code) (λ w. head_front w o id code) is h

pub text_more : (before now : Option (List ℕ)) (all o later : Outline) (more : List ℕ) → later ≡ with_more o more → Tells before now all o → Tells before now (with_more all more) later
text_more before now all o later more is h = told_more before now all o later (λ x. with_more x more) (λ w. more_front w o more) is h

pub whole_is : {before now : Option (List ℕ)} {all o : Outline} → Tells before now all o → all.whole ≡ o.whole
whole_is h = ap (λ (x : Outline). x.whole) (sym h.is)

-- the text was written
pub flushes : (before now later : Option (List ℕ)) (all o : Outline) → Tells before now all o → Added now later o.text → Tells before later all (emptied o)
flushes before now later all o h added = record {
  written = h.written ++ o.text;
  added = added_more before now later h.written o.text h.added added;
  is = rw append-nil h.is;
}

-- a front of a text is a front of a longer one
pub longer : (before now : Option (List ℕ)) (text more whole : List ℕ) → whole ≡ text ++ more → TookFront before now text → TookFront before now whole
longer before now text more whole is h =
    let same : take h.count (text ++ more) ≡ take h.count text = take-append-le h.count text more h.within in
    record { count = h.count; within = rw is (omega (arith, h.within, length-append text more)); added = rw (is, same) h.added }

-- what was written is a front of what is told
so_far : (before now : Option (List ℕ)) (all o : Outline) → Tells before now all o → TookFront before now all.text
so_far before now all o h =
    let text : all.text ≡ h.written ++ o.text = ap (λ (x : Outline). x.text) (sym h.is) in
    let front = front_is h.written o.text [] 0 (omega arith) in
    let none : h.written ++ take 0 o.text ≡ h.written = append-nil h.written in
    record { count = length h.written + 0; within = rw text (omega (arith, length-append h.written o.text)); added = rw (text, ← append-nil (h.written ++ o.text), ← front, none) h.added }

-- memory ran out before a step
pub wants : (before now : Option (List ℕ)) (all o : Outline) (more : List ℕ) (whole : List ℕ) → whole ≡ all.text ++ more → Tells before now all o → TookFront before now whole
wants before now all o more whole is h = longer before now all.text more whole is (so_far before now all o h)

pub wants_piece : (before now : Option (List ℕ)) (all o : Outline) (p : Piece) → Tells before now all o → TookFront before now (after all p).text
wants_piece before now all o p h = let one = grown all p in wants before now all o one.0 (after all p).text one.1 h

-- a write failed behind a front of the text
pub fails : (before now later : Option (List ℕ)) (all o : Outline) (faults_before faults_now : ℕ) → Tells before now all o → Wrote now later faults_before faults_now o.text → TookFront before later all.text
fails before now later all o faults_before faults_now h wrote =
    let text : all.text ≡ h.written ++ o.text = ap (λ (x : Outline). x.text) (sym h.is) in
    let front = front_is h.written o.text [] wrote.count wrote.within in
    let both = added_more before now later h.written (take wrote.count o.text) h.added wrote.added in
    record { count = length h.written + wrote.count; within = rw text (omega (arith, wrote.within, length-append h.written o.text)); added = rw (text, ← append-nil (h.written ++ o.text), ← front) both }

-- what was tried for a step is tried for a longer one where it failed
pub tried_longer : (before later : Option (List ℕ)) (all whole o new : Outline) (fault : DumpFault) (more : List ℕ) → whole.text ≡ all.text ++ more → Tried before later all o (Err fault) → Tried before later whole new (Err fault)
tried_longer before later all whole o new (Bit fault) more is h = h
tried_longer before later all whole o new WriteFault more is h = longer before later all.text more whole.text is h
tried_longer before later all whole o new Memory more is h = longer before later all.text more whole.text is h

-- a record, operand by operand

pub operands_step : (y z : Outline) (n : ℕ) (operands others : List ℕ) → operands ≡ n ∷ others → after_operands y operands ≡ z → after_operands (after_operand y n) others ≡ z
unfolding after_operands
operands_step y z n operands others is h = sym (ap (λ (l : List ℕ). after_operands y l) is) ∙ h

pub operands_text : (y z : Outline) (operands : List ℕ) → after_operands y operands ≡ z → (more : List ℕ) × (z.text ≡ y.text ++ more)
operands_text y z operands h = let more = operands_grow y operands in (more.0, ap (λ (x : Outline). x.text) (sym h) ∙ more.1)

pub operands_over : (before now : Option (List ℕ)) (y z o : Outline) (operands : List ℕ) → operands ≡ [] → after_operands y operands ≡ z → Tells before now y o → Tells before now z o
unfolding after_operands
operands_over before now y z o operands none h tells =
    let same : y ≡ z = sym (ap (λ (l : List ℕ). after_operands y l) none) ∙ h in
    rw same at tells

pub record_rest : (all : Outline) (id code : ℕ) (operands : List ℕ) (has_blob : Bool) (size : ℕ) → (more : List ℕ) × ((after_record all id code operands has_blob size).text ≡ (after_operands (after_head all id code) operands).text ++ more)
record_rest all id code operands has_blob size = (_, ap (λ (x : Outline). x.text) (sym (record_told all id code operands has_blob size)))

-- what holds where a call went well
pub where_ok : {A B E X : Type 0} (r : Result X E) → (A → B) → OnOk r A → OnOk r B
where_ok (Ok x) f h = f h
where_ok (Err e) f h = tt

-- the text of the whole tree

-- a stream that is told so far, of which these pieces are left
pub record IsTold (bytes : List ℕ) (whole : Bool) (before now : Option (List ℕ)) (left : List Piece) (o : Outline) : Type 0 where
  pub all : Outline
  pub tells : Tells before now all o
  pub tree : StreamTree
  pub stream : Stream bytes tree
  pub are : told all left ≡ told (nothing_told whole) (flat tree)

pub begins : (bytes : List ℕ) (whole : Bool) (before : Option (List ℕ)) (left : List Piece) (o : Outline) (tree : StreamTree) → Stream bytes tree → left ≡ flat tree → o ≡ nothing_told whole → IsTold bytes whole before before left o
begins bytes whole before left o tree stream are is = record {
  all = nothing_told whole;
  tells = record { written = []; added = added_none before; is = is };
  tree = tree;
  stream = stream;
  are = ap (λ (ps : List Piece). told (nothing_told whole) ps) are;
}

-- one more piece
pub goes_on : (bytes : List ℕ) (whole : Bool) (before now later : Option (List ℕ)) (left others : List Piece) (p : Piece) (o new : Outline) → (h : IsTold bytes whole before now left o) → left ≡ p ∷ others → Tells before later (after h.all p) new → IsTold bytes whole before later others new
unfolding told
goes_on bytes whole before now later left others p o new h is tells = record { all = after h.all p; tells = tells; tree = h.tree; stream = h.stream; are = rw is at h.are }

-- the text of so much is a front of the whole text
whole_text : (bytes : List ℕ) (whole : Bool) (all : Outline) (left : List Piece) (tree : StreamTree) → told all left ≡ told (nothing_told whole) (flat tree) → (more : List ℕ) × (dump_text tree whole ≡ all.text ++ more)
whole_text bytes whole all left tree are =
    let more = grows all left in
    let last = summary (told (nothing_told whole) (flat tree)).tally in
    let lines : (told (nothing_told whole) (flat tree)).text ≡ all.text ++ more.0 = ap (λ (x : Outline). x.text) (sym are) ∙ more.1 in
    (more.0 ++ last, sym (summed_is whole tree) ∙ (ap (λ (l : List ℕ). l ++ last) lines ∙ append_assoc all.text more.0 last))

pub wrote_front : (bytes : List ℕ) (whole : Bool) (before now : Option (List ℕ)) (all : Outline) (left : List Piece) (tree : StreamTree) → Stream bytes tree → told all left ≡ told (nothing_told whole) (flat tree) → TookFront before now all.text → WroteFront bytes whole before now
wrote_front bytes whole before now all left tree stream are h =
    let text = whole_text bytes whole all left tree are in
    let took = longer before now all.text text.0 (dump_text tree whole) text.1 h in
    record { tree = tree; stream = stream; count = took.count; added = took.added }

-- memory ran out behind what was written
pub wants_more : (bytes : List ℕ) (whole : Bool) (before now : Option (List ℕ)) (left : List Piece) (o : Outline) → IsTold bytes whole before now left o → WroteFront bytes whole before now
wants_more bytes whole before now left o h = wrote_front bytes whole before now h.all left h.tree h.stream h.are (so_far before now h.all o h.tells)

-- a piece was not told to its end
pub halts : (bytes : List ℕ) (whole : Bool) (before now later : Option (List ℕ)) (left others : List Piece) (p : Piece) (o new : Outline) (fault : DumpFault) → (h : IsTold bytes whole before now left o) → left ≡ p ∷ others → Tried before later (after h.all p) new (Err fault) → Dumped bytes whole before later (Err fault)
unfolding told
halts bytes whole before now later left others p o new (Bit fault) h is tried = absurd tried
halts bytes whole before now later left others p o new WriteFault h is tried = wrote_front bytes whole before later (after h.all p) others h.tree h.stream (rw is at h.are) tried
halts bytes whole before now later left others p o new Memory h is tried = inr (wrote_front bytes whole before later (after h.all p) others h.tree h.stream (rw is at h.are) tried)

-- the whole stream was passed, and of its text this line is still to be written
pub closes : (bytes : List ℕ) (whole : Bool) (before now later : Option (List ℕ)) (o : Outline) (left : List Piece) (result : Result (Unit {0}) DumpFault) → IsTold bytes whole before now left o → left ≡ [] → Finished now later (summed o).text result → Dumped bytes whole before later result
unfolding told
closes bytes whole before now later o left result h none k = by_result result k where
  last : h.all ≡ told (nothing_told whole) (flat h.tree)
  last = rw none at h.are

  text : dump_text h.tree whole ≡ h.tells.written ++ (summed o).text
  text = sym (summed_is whole h.tree) ∙ (ap (λ (x : Outline). (summed x).text) (sym (h.tells.is ∙ last)) ∙ append_assoc h.tells.written o.text (summary o.tally))

  took : (count : ℕ) → count ≤ length (summed o).text → Added now later (take count (summed o).text) → WroteFront bytes whole before later
  took count within added =
      let front = front_is h.tells.written (summed o).text [] count within in
      let both = added_more before now later h.tells.written (take count (summed o).text) h.tells.added added in
      let all : dump_text h.tree whole ≡ (h.tells.written ++ (summed o).text) ++ [] = text ∙ sym (append-nil (h.tells.written ++ (summed o).text)) in
      record { tree = h.tree; stream = h.stream; count = length h.tells.written + count; added = rw (all, ← front) both }

  by_result : (result : Result (Unit {0}) DumpFault) → Finished now later (summed o).text result → Dumped bytes whole before later result
  by_result (Ok done) k = (h.tree, h.stream, rw text (added_more before now later h.tells.written (summed o).text h.tells.added k))
  by_result (Err (Bit fault)) k = absurd k
  by_result (Err WriteFault) k = took k.count k.within k.added
  by_result (Err Memory) k = inr (took k.count k.within k.added)
