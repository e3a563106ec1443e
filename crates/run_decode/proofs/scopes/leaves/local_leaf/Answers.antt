use Rattle.run_decode.proofs.OnScopes.Gained.{no_leaf, one_leaf}
use Rattle.run_decode.proofs.scopes.leaves.local_leaf.Goals as goal

pub returns-then-begin-end : goal.returns-then-begin-end
returns-then-begin-end c = λ ty. no_leaf c.args.scope.now c.args.id c.bounds-begin.result.0 c.bounds-begin.result.1 ty c.bounds-begin.ensures c.if-begin-end.true

pub returns : goal.returns
returns c = λ ty. one_leaf c.args.scope.now c.args.id c.bounds-begin.result.0 c.bounds-begin.result.1 ty c.bounds-begin.ensures c.if-begin-end.false
