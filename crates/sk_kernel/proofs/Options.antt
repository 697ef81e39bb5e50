-- What bits are the options of a wait4(2).
use Rattle.std.proofs.Common.{◌≡◌, ◌∙◌, ℕ, ap, sym, refl, cond, bit_and, Option, None, Some, IsSome, IfSome, eq-eqb, ne_eqb}
use Rattle.sk_kernel.proofs.Common.{false≢true, WaitOptions, options_of, are_wait_options}

-- options that are found exactly where each bit is an option's, and have these bits, are those of the bits
pub options_found : (bits : ℕ) (found : Option WaitOptions) → IfSome found (λ options. options.0 ≡ bits)
    → (IsSome found → bit_and bits 11 ≡ bits) → (bit_and bits 11 ≡ bits → IsSome found) → found ≡ cond (are_wait_options bits) (Some (options_of bits)) None
options_found bits None same only all = sym (ap (λ b. cond b (Some (options_of bits)) None) (ne_eqb (bit_and bits 11) bits (λ is. false≢true (all is))))
options_found bits (Some options) same only all =
    (λ i. Some (record { 0 = same i }))
    ∙ sym (ap (λ b. cond b (Some (options_of bits)) None) (eq-eqb (bit_and bits 11) bits (only refl)))
