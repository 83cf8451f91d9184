use Rattle.std.proofs.Common.{◌≡◌, List, [], ◌∷◌, ◌++◌, length, ap, arith}
use Rattle.std.specs.List.{All}
use Rattle.std.proofs.lemmas.List.{length-append}
use Rattle.std.proofs.lemmas.List.Elements.{All-nil, All-cons, All-append, All-same}
use Rattle.claim_book.specs.declared.path.Path.{Path}
use Rattle.claim_book.specs.Index.{IsEmptyPath}
use Rattle.claim_book.proofs.starting.new_paths.Goals as goal

one_more : (xs ys : List Path) (x : Path) → ys ≡ xs ++ x ∷ [] → All IsEmptyPath xs → IsEmptyPath x → All IsEmptyPath ys
one_more xs ys x is all one = All-same IsEmptyPath ys (xs ++ x ∷ []) is (All-append IsEmptyPath xs (x ∷ []) all (All-cons IsEmptyPath x [] one (All-nil IsEmptyPath)))

pub loop-preserved : goal.loop-preserved
loop-preserved c = record {
  len = (let a = c.loop.invariant.len in let b = ap length c.in_ok-push.ensures.items in omega (arith, length-append c.loop.paths.items (c.in_ok-path.path ∷ [])));
  empty = one_more c.loop.paths.items c.push.new.self.items c.in_ok-path.path c.in_ok-push.ensures.items c.loop.invariant.empty c.in_ok-path.ensures;
}
