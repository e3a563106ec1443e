-- What stands in pools to which items were appended.
use Rattle.std.proofs.Common.{◌≡◌, ℕ, ◌+◌, ◌-◌, List, [], ◌∷◌, ◌++◌, Result, Ok, Err, IfOk, OnOk, Some, length, get_or, map, refl, ap, ◌∙◌, arith, take, drop}
use Rattle.std.specs.Prelude.{slice_get}
use Rattle.std.proofs.Math.Seq.{get_or-append_seam}
use Rattle.std.proofs.lemmas.List.{length-append, map-append}
use Rattle.std.proofs.lemmas.Option.{slice_get-get_or}
use Rattle.run_actions.specs.declared.edge.Edge.{Edge}
use Rattle.run_actions.specs.Edges.{way_of}
use Rattle.run_rules.specs.Action as actions
use Rattle.run_actions.specs.declared.stack.origin.Move.{Move}
use Rattle.run_actions.specs.declared.stack.origin.Origin.{Origin}
use Rattle.run_actions.specs.Stack.Origins.{move_of, origin_of}
use Rattle.run_decode.specs.declared.flat.leaf.Span.{Span}
use Rattle.run_decode.specs.declared.flat.pools.Pools.{Pools}
use Rattle.run_decode.specs.Flat.Flat.{HasItsMoves, no_edge}
use Rattle.run_decode.specs.Flat.Grown.{Adds, AreLeaves, IsEdge}
use Rattle.run_decode.specs.Flat.Spans.{IsBetween}
use Rattle.run_decode.proofs.OnFlat.Growth.{adds_then, edges_add}
use Rattle.run_decode.proofs.OnFlat.Spanned.{leaves_stand, meant_more}

-- leaves
pub leaves_put : {E : Type 0} (r : Result Span E) (old : List Origin) (q : Pools) (items : List Origin) → IfOk r (IsBetween (length old) (length q.origins)) → OnOk r (q.origins ≡ old ++ items) → IfOk r (λ span. AreLeaves q span (map origin_of items))
leaves_put (Ok s) old q items h e = leaves_stand old q (length old) (map origin_of items) s (ap (map origin_of) e ∙ map-append origin_of old items) refl h
leaves_put (Err x) old q items h e = tt

-- an item at the end
pub pushed_at : {A : Type 0} (xs : List A) (x : A) (k : ℕ) → k ≡ length xs → slice_get (xs ++ x ∷ []) k ≡ Some x
pushed_at xs x k e =
    let many = length-append xs (x ∷ []) in
    ap (slice_get (xs ++ x ∷ [])) e ∙ slice_get-get_or (xs ++ x ∷ []) (length xs) x (omega (arith, many)) ∙ ap Some (get_or-append_seam xs x [] x)

-- the moves of a way
pub way_put : (old new : List Move) (gained : List actions.Move) (span : Span) (block position : ℕ) → map move_of new ≡ map move_of old ++ gained → IsBetween (length old) (length new) span
    → way_of new (record { block = block; position = position; first = span.first; end = span.first + span.count }) ≡ record { block = block; position = position; moves = gained }
way_put old new gained span block position e h =
    let count : span.first + span.count - span.first ≡ span.count = omega arith in
    let moves = ap (λ (n : ℕ). map move_of (take n (drop span.first new))) count ∙ meant_more move_of old new (length old) gained span e refl h in
    ap (λ (ms : List actions.Move). record { block = block; position = position; moves = ms }) moves

pub its_moves : (p : Pools) (old : List Move) (span : Span) (block position : ℕ) → IsBetween (length old) (length p.moves) span → HasItsMoves p (record { block = block; position = position; first = span.first; end = span.first + span.count })
its_moves p old span block position h = let ends = h.ends in record { ordered = omega arith; stored = omega (arith, ends) }

-- an edge that was pushed
pub edge_put : (q : Pools) (old : List Edge) (edge : Edge) (place : ℕ) (meant : actions.Edge) → place ≡ length old → q.edges ≡ old ++ edge ∷ [] → HasItsMoves q edge → way_of q.moves edge ≡ meant → IsEdge q place meant
edge_put q old edge place meant here e moves way =
    let there : slice_get q.edges place ≡ Some edge = ap (λ (l : List Edge). slice_get l place) e ∙ pushed_at old edge place here in
    record {
      within = record { edge = edge; there = there; moves = moves };
      means = ap (way_of q.moves) ((λ j. get_or (e j) (here j) no_edge) ∙ get_or-append_seam old edge [] no_edge) ∙ way;
    }

-- moves that were appended
pub appended_moves : (old new start moves : List Move) (gained : List actions.Move) → new ≡ old ++ moves → start ≡ [] → map move_of moves ≡ map move_of start ++ gained → map move_of new ≡ map move_of old ++ gained
appended_moves old new start moves gained e none h =
    ap (map move_of) e ∙ map-append move_of old moves ∙ ap (λ (l : List actions.Move). map move_of old ++ l) (h ∙ ap (λ (l : List Move). map move_of l ++ gained) none)

-- the same where its place is answered
pub if_edge : {E : Type 0} (r : Result ℕ E) (q : Pools) (old : List Edge) (edge : Edge) (meant : actions.Edge) → IfOk r (λ place. place ≡ length old) → OnOk r (q.edges ≡ old ++ edge ∷ []) → HasItsMoves q edge → way_of q.moves edge ≡ meant
    → IfOk r (λ place. IsEdge q place meant)
if_edge (Ok place) q old edge meant here e moves way = edge_put q old edge place meant here e moves way
if_edge (Err x) q old edge meant here e moves way = tt

pub grown_edge : {E : Type 0} (r : Result ℕ E) (p q : Pools) (xs : List Edge) (edge : Edge) → Adds p q → OnOk r (xs ≡ q.edges ++ edge ∷ []) → OnOk r (Adds p (record q { edges = xs }))
grown_edge (Ok place) p q xs edge h e = adds_then p q (record q { edges = xs }) h (edges_add q xs (edge ∷ [], e))
grown_edge (Err x) p q xs edge h e = tt
