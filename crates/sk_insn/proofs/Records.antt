-- The bytes of the record that is read from 64 bytes are these bytes.
use Rattle.std.proofs.Common.{◌≡◌, ℕ, ◌+◌, ◌≤◌, List, [], ◌∷◌, ◌++◌, length, take, drop, sym, ap, ◌∙◌, arith}
use Rattle.std.proofs.lemmas.List.{take-append-drop, drop-drop, drop_all, length-drop, get_or-drop}
use Rattle.byteorder.specs.Endian.{little_number, little_bytes}
use Rattle.byteorder.specs.Numbers.{little_from-take}
use Rattle.sk_insn.specs.Record.{x86_64, record_bytes}
use Rattle.sk_insn.proofs.LittleEndian.{IsBytes, little_bytes-little_number}

-- a number's bytes, and the bytes after it
pub number_first : (n at number : ℕ) (bytes rest : List ℕ) → IsBytes bytes → at + n ≤ length bytes → number ≡ little_number n (drop at bytes) → rest ≡ drop (at + n) bytes → little_bytes n number ++ rest ≡ drop at bytes
number_first n at number bytes rest fits long e tail =
    let fits_after : IsBytes (drop at bytes) = λ i. rw get_or-drop (fits (at + i)) in
    let enough : n ≤ length (drop at bytes) = simp length-drop (omega arith) in
    ap (λ x. little_bytes n x ++ rest) e
    ∙ ap (λ front. front ++ rest) (little_bytes-little_number n (drop at bytes) fits_after enough)
    ∙ ap (λ back. take n (drop at bytes) ++ back) (tail ∙ sym (drop-drop n at bytes))
    ∙ take-append-drop n (drop at bytes)

-- the architecture's bytes are those of its number
pub x86_64-number : (bytes : List ℕ) → IsBytes bytes → 8 ≤ length bytes → little_number 4 (drop 4 bytes) ≡ 0xC000003E → take 4 (drop 4 bytes) ≡ x86_64
x86_64-number bytes fits long e =
    let fits_after : IsBytes (drop 4 bytes) = λ i. rw get_or-drop (fits (4 + i)) in
    let enough : 4 ≤ length (drop 4 bytes) = simp length-drop (omega arith) in
    sym (little_bytes-little_number 4 (drop 4 bytes) fits_after enough) ∙ ap (little_bytes 4) e

-- and back
pub number-x86_64 : (bytes : List ℕ) → take 4 bytes ≡ x86_64 → little_number 4 bytes ≡ 0xC000003E
number-x86_64 bytes e = sym (little_from-take 0 4 4 bytes (omega arith)) ∙ ap (little_number 4) e

-- a record whose numbers stand in the bytes at their places
pub record_bytes-read : (bytes : List ℕ) (nr arch ip a b c d e f : ℕ) → IsBytes bytes → length bytes ≡ 64
    → nr ≡ little_number 4 (drop 0 bytes) → arch ≡ little_number 4 (drop 4 bytes) → ip ≡ little_number 8 (drop 8 bytes)
    → a ≡ little_number 8 (drop 16 bytes) → b ≡ little_number 8 (drop 24 bytes) → c ≡ little_number 8 (drop 32 bytes)
    → d ≡ little_number 8 (drop 40 bytes) → e ≡ little_number 8 (drop 48 bytes) → f ≡ little_number 8 (drop 56 bytes)
    → record_bytes (record { nr = nr; arch = arch; ip = ip; args = a ∷ b ∷ c ∷ d ∷ e ∷ f ∷ [] }) ≡ bytes
record_bytes-read bytes nr arch ip a b c d e f fits long nr_is arch_is ip_is a_is b_is c_is d_is e_is f_is =
    let none = sym (drop_all 64 bytes (omega arith)) in
    let from56 = number_first 8 56 f bytes [] fits (omega arith) f_is none in
    let from48 = number_first 8 48 e bytes _ fits (omega arith) e_is from56 in
    let from40 = number_first 8 40 d bytes _ fits (omega arith) d_is from48 in
    let from32 = number_first 8 32 c bytes _ fits (omega arith) c_is from40 in
    let from24 = number_first 8 24 b bytes _ fits (omega arith) b_is from32 in
    let from16 = number_first 8 16 a bytes _ fits (omega arith) a_is from24 in
    let from8 = number_first 8 8 ip bytes _ fits (omega arith) ip_is from16 in
    let from4 = number_first 4 4 arch bytes _ fits (omega arith) arch_is from8 in
    number_first 4 0 nr bytes _ fits (omega arith) nr_is from4
