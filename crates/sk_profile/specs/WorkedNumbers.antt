-- What profiles say, worked out by hand: which rules count, what the operators compare, and what is said of numbers where runc's
-- stub stands before the filter. The filters that runc 1.1.5 attached for such profiles answer so.
use Rattle.std.specs.Prelude.{ℕ, ◌≡◌, ◌+◌, ◌-◌, ◌^◌, Bool, true, false, List, [], ◌∷◌}
use Rattle.sk_profile.specs.declared.condition.Condition.{Condition}
use Rattle.sk_profile.specs.declared.condition.Test.{Test}
use Rattle.sk_profile.specs.declared.condition.Test.TheVariants.{Is, IsNot, Below, AtMost, Above, AtLeast, Masked}
use Rattle.sk_insn.specs.declared.record.Record.{Record}
use Rattle.sk_insn.specs.Record.{architecture}
use Rattle.sk_profile.specs.Profiles.{Rule, Part, Profile, saying_for, said_by}
use Rattle.sk_profile.specs.Sayings.{Saying, always, compares}

-- the part of x86-64, where runc knows no greater numbers than these
abbrev pub part : List Rule → ℕ → ℕ → Bool → Part
part rules top x32_top without_x32 =
    record { audit = architecture; narrow = false; without_x32 = without_x32; rules = rules; top = top; x32_top = x32_top }

-- default ERRNO(1); what is no call of x86-64 is killed
abbrev pub profile : Part → Profile
profile part = record { parts = part ∷ []; default = 0x50001; bad = 0 }

abbrev pub native_saying : Part → ℕ → Saying
native_saying part nr = saying_for (profile part) architecture nr

abbrev pub allowing : ℕ → Rule
allowing nr = record { number = nr; conditions = []; value = 0x7fff0000; entry = 0 }

-- what the default says, under these conditions
abbrev pub refusing : ℕ → List Condition → Rule
refusing nr conditions = record { number = nr; conditions = conditions; value = 0x50001; entry = 0 }

-- the first argument is 1
abbrev pub one : List Condition
one = record { index = 0; test = Is; value = 1 } ∷ []

-- how a comparison with 2^63 comes out of the number before it, of itself, and of the next one
abbrev pub borders : Test → Bool × (Bool × Bool)
borders test = (compares test (2 ^ 63 - 1) (2 ^ 63), (compares test (2 ^ 63) (2 ^ 63), compares test (2 ^ 63 + 1) (2 ^ 63)))

-- faccessat2 and getpid are allowed, the greater number first
abbrev pub rules : List Rule
rules = allowing 439 ∷ allowing 39 ∷ []

-- with x32, whose faccessat2 has the same number with bit 30
abbrev pub by_runc : Part
by_runc = part rules 439 0 true

abbrev pub with_x32 : Part
with_x32 = part (allowing 0x40000027 ∷ rules) 439 0x400001b7 false

-- i386 beside x86-64: getpid is 20 there
abbrev pub i386 : List Rule → Part
i386 rules = record { audit = 0x40000003; narrow = true; without_x32 = false; rules = rules; top = 0; x32_top = 0 }

abbrev pub both : Profile
both = record { parts = part (allowing 39 ∷ []) 0 0 true ∷ i386 (allowing 20 ∷ []) ∷ []; default = 0x50001; bad = 0 }

-- a call with this first argument
abbrev pub asking : ℕ → ℕ → ℕ → Record
asking arch nr argument = record { nr = nr; arch = arch; ip = 0; args = argument ∷ 0 ∷ 0 ∷ 0 ∷ 0 ∷ 0 ∷ [] }

-- allowed where the first argument is 1
abbrev pub allowing_one : ℕ → Rule
allowing_one nr = record { number = nr; conditions = one; value = 0x7fff0000; entry = 0 }

abbrev pub of_one : Profile
of_one = record {
  parts = part (allowing_one 39 ∷ allowing_one 0x40000027 ∷ []) 0 0 false ∷ i386 (allowing_one 20 ∷ []) ∷ [];
  default = 0x50001;
  bad = 0;
}

pub record WorkedNumbers : Type 0 where
  -- the greatest number is as the profile says, and so is each below it
  pub below : native_saying by_runc 438 ≡ always 0x50001
  pub named : native_saying by_runc 39 ≡ always 0x7fff0000
  pub itself : native_saying by_runc 439 ≡ always 0x7fff0000
  pub next : native_saying by_runc 440 ≡ always 0x50026
  pub thousand : native_saying by_runc 1024 ≡ always 0x50026
  pub before_x32 : native_saying by_runc 0x3fffffff ≡ always 0x50026
  -- numbers with bit 30 are as without runc, where x32 is not there
  pub first_of_x32 : native_saying by_runc 0x40000000 ≡ always 0
  pub half : native_saying by_runc 0x7fffffff ≡ always 0
  pub past_half : native_saying by_runc 0x80000000 ≡ always 0x50026
  pub before_bit : native_saying by_runc 0xbfffffff ≡ always 0x50026
  pub bit_again : native_saying by_runc 0xc0000000 ≡ always 0
  pub last_of_x32 : native_saying by_runc 0xfffffffe ≡ always 0
  pub minus_one : native_saying by_runc 0xffffffff ≡ always 0x50001
  -- and have a greatest of their own where it is
  pub of_x32 : native_saying with_x32 0x40000027 ≡ always 0x7fff0000
  pub other_of_x32 : native_saying with_x32 0x40000026 ≡ always 0x50001
  pub top_of_x32 : native_saying with_x32 0x400001b7 ≡ always 0x50001
  pub past_x32 : native_saying with_x32 0x400001b8 ≡ always 0x50026
  pub half_with_x32 : native_saying with_x32 0x7fffffff ≡ always 0x50026
  pub last_with_x32 : native_saying with_x32 0xfffffffe ≡ always 0x50026
  pub minus_one_of_x32 : native_saying with_x32 0xffffffff ≡ always 0x50026
  pub native_with_x32 : native_saying with_x32 39 ≡ always 0x7fff0000
  -- without a greatest number every number is known
  pub only_0 : native_saying (part (allowing 0 ∷ []) 0 0 true) 1 ≡ always 0x50001
  pub only_1 : native_saying (part (allowing 1 ∷ []) 1 0 true) 2 ≡ always 0x50026
  -- a rule that says what the default says is left out: the next one counts
  pub said_by_default : native_saying (part (refusing 39 [] ∷ allowing 39 ∷ []) 0 0 true) 39 ≡ always 0x7fff0000
  pub said_after : native_saying (part (allowing 39 ∷ refusing 39 [] ∷ []) 0 0 true) 39 ≡ always 0x7fff0000
  pub another_error : native_saying (part (record { number = 39; conditions = []; value = 0x50005; entry = 0 } ∷ allowing 39 ∷ []) 0 0 true) 39 ≡ always 0x50005
  pub with_conditions : native_saying (part (refusing 39 one ∷ allowing 39 ∷ []) 0 0 true) 39 ≡ always 0x7fff0000
  pub no_arm : native_saying (part (refusing 39 one ∷ []) 0 0 true) 39 ≡ always 0x50001
  pub other_arm : native_saying (part (refusing 39 [] ∷ allowing_one 39 ∷ []) 0 0 true) 39
      ≡ record { narrow = false; arms = record { conditions = one; value = 0x7fff0000 } ∷ []; otherwise = 0x50001 }
  -- a rule without conditions goes before those with them, and of several without the first counts
  pub plain_goes_first : native_saying (part (record { number = 39; conditions = one; value = 0x50005; entry = 0 } ∷ allowing 39 ∷ record { number = 39; conditions = []; value = 0x50005; entry = 0 } ∷ []) 0 0 true) 39
      ≡ always 0x7fff0000
  -- each architecture has the numbers of its own part, and what is no call of theirs is killed
  pub on_x86_64 : said_by both (asking architecture 39 0) ≡ 0x7fff0000
  pub on_i386 : said_by both (asking 0x40000003 20 0) ≡ 0x7fff0000
  pub not_on_i386 : said_by both (asking 0x40000003 39 0) ≡ 0x50001
  pub not_on_x86_64 : said_by both (asking architecture 20 0) ≡ 0x50001
  pub on_arm : said_by both (asking 0x40000028 20 0) ≡ 0
  pub of_no_x32 : said_by both (asking architecture 0x40000027 0) ≡ 0
  -- an argument is its lower half on i386 and on x32, and has 64 bits on x86-64
  pub wide : said_by of_one (asking architecture 39 0x100000001) ≡ 0x50001
  pub wide_one : said_by of_one (asking architecture 39 1) ≡ 0x7fff0000
  pub of_i386 : said_by of_one (asking 0x40000003 20 0x100000001) ≡ 0x7fff0000
  pub of_i386_too : said_by of_one (asking 0x40000003 20 0x100000000) ≡ 0x50001
  pub low_of_x32 : said_by of_one (asking architecture 0x40000027 0x100000001) ≡ 0x7fff0000
  -- the operators of seccomp_rule_add(3), at their borders
  pub equal : borders Is ≡ (false, (true, false))
  pub not_equal : borders IsNot ≡ (true, (false, true))
  pub less : borders Below ≡ (true, (false, false))
  pub less_or_equal : borders AtMost ≡ (true, (true, false))
  pub greater : borders Above ≡ (false, (false, true))
  pub greater_or_equal : borders AtLeast ≡ (false, (true, true))
  pub masked_equal : compares (Masked 0xf0) 0x1f 0x10 ≡ true
  pub masked_unequal : compares (Masked 0xf0) 0x2f 0x10 ≡ false
  -- conditions on one argument that no number meets, so that rules with them never clash
  pub at_most_and_above : (n : ℕ) → compares AtMost n 5 ≡ true → compares Above n 5 ≡ true → ⊥
  pub two_masks : (n : ℕ) → compares (Masked 1) n 0 ≡ true → compares (Masked 1) n 1 ≡ true → ⊥
  pub below_and_not : (n : ℕ) → compares Below n 1 ≡ true → compares IsNot n 0 ≡ true → ⊥
  pub mask_and_below : (n : ℕ) → compares (Masked 0xf0) n 0x10 ≡ true → compares Below n 0x10 ≡ true → ⊥
  -- and some that one number meets
  pub meets_mask : compares (Masked 0xf0) 0x10 0x10 ≡ true
  pub meets_below : compares Below 0x10 0x11 ≡ true
  -- without runc no number is unknown
  pub not_runc : native_saying (part rules 0 0 false) 440 ≡ always 0x50001
  pub not_runc_half : native_saying (part rules 0 0 true) 0x80000000 ≡ always 0
  pub not_runc_minus_one : native_saying (part rules 0 0 false) 0xffffffff ≡ always 0x50001
