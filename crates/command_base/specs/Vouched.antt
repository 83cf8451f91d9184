-- The proof that a node's own identifier was made and not chosen (S/Kademlia, 2007, section 4.1).
use Rattle.std.specs.Prelude.{List, ℕ, Option, Some, None}
use Rattle.kad_base.specs.declared.types.Id.{Id}
use Rattle.kad_base.specs.declared.types.Policy.{Policy}
use Rattle.kad_base.specs.declared.types.Policy.TheVariants.{Plain, Puzzled}
use Rattle.kad_base.specs.declared.types.Proof.{Proof}
use Rattle.kad_base.specs.Puzzles.{Solves}
use Rattle.kad_words.specs.declared.command.LookWords.{LookWords}
use Rattle.command_base.specs.Started.{own_of}

-- it is one of this identifier, at the numbers of the policy. Those of Plain are 0: the identifier is the hash of its key
abbrev pub IsOwnProof : Policy → Id → Proof → Type 0
IsOwnProof Plain own proof = Solves 0 0 own.0 proof
IsOwnProof (Puzzled c1 c2) own proof = Solves c1 c2 own.0 proof

-- the same, if there is one
abbrev pub IsVouched : Policy → Id → Option Proof → Type 0
IsVouched policy own None = Unit {0}
IsVouched policy own (Some proof) = IsOwnProof policy own proof

-- the words give no proof, or one of the node's own identifier, at the node's own numbers
abbrev pub Vouches : LookWords → Option Proof → List ℕ → Type 0
Vouches look proof random = IsVouched look.policy (own_of look.own random) proof
