use Rattle.std.proofs.Common.{◌≡◌, ◌⊎◌, inl, inr, ℕ, refl}
use Rattle.sk_terms.specs.Terms.{register_of}
use Rattle.sk_terms.proofs.Borders.{other_of_bit}
use Rattle.sk_terms.proofs.term.Term.unequal.Goals as goal

either_end : (k m : ℕ) → (k ≡ 0) ⊎ ((k ≡ 0 → ⊥) × (k ≡ m)) → (k ≡ 0) ⊎ (k ≡ m)
either_end k m (inl e) = inl e
either_end k m (inr e) = inr e.1

pub returns-then-self : goal.returns-then-self
returns-then-self c = record {
  negated = λ call.
      let one = c.if-is_one_bit.ensures.one refl in
      other_of_bit c.args.self (register_of c.args.self.register call) one.0 one.1 c.requires.inside c.requires.one
      (either_end c.args.self.first c.args.self.mask c.if-self.either);
}
