-- The pieces that arms are put in.
use Rattle.std.proofs.Common.{◌≡◌, Bool, true, false, if◌then◌else◌, ℕ, ◌+◌, ◌<◌, List, [], ◌∷◌, ◌++◌, ◌-◌, length, get_or, take, drop, map, flat_map, refl, ap, sym, ◌∙◌, subst, arith, append_assoc, append-nil}
use Rattle.std.specs.Prelude.{All, Result, Ok, Err, OnOk}
use Rattle.std.proofs.lemmas.List.{take-map, length-drop, take_all, take_more, take-append-drop, map-append, flat_map_more}
use Rattle.std.proofs.lemmas.List.Elements.{All-nil, All-cons, All-head, All-tail, All-map, All-append, All-weaker}
use Rattle.sk_insn.specs.declared.insn.Insn.{Insn}
use Rattle.sk_insn.specs.declared.record.Record.{Record}
use Rattle.sk_profile.specs.declared.condition.Condition.{Condition}
use Rattle.sk_profile.specs.declared.condition.Test.TheVariants.{Is}
use Rattle.sk_profile.specs.declared.saying.Arm.{Arm as ArmOfCode}
use Rattle.sk_profile.specs.declared.saying.Saying.{Saying as SayingOfCode}
use Rattle.sk_profile.specs.Sayings.{seen, Arm, asks, all_hold, first_held, Choice, Piece, Single, Joined, arms_of}
use Rattle.sk_profile.specs.Code.{load, answer, high, low_place, half_code, lows_code, choice_code, piece_code}
use Rattle.sk_profile.specs.Means.{IsPiece}
use Rattle.sk_profile.specs.CodeViews.{arm_of, saying_of, asked_for, Asks, IsArmOfCode, PutsPiece, PutsPieces, PutsSaying}

pub rest_of : {X : Type 0} (n : ℕ) (xs : List X) → take (length xs - n) (drop n xs) ≡ drop n xs
rest_of n xs = take_all (length xs - n) (drop n xs) (omega (arith, length-drop n xs))

pub on_ok : {X E : Type 0} {P Q : Type 0} (r : Result X E) → (P → Q) → OnOk r P → OnOk r Q
on_ok (Ok x) f p = f p
on_ok (Err e) f p = tt

-- an arm by itself
pub one_arm : (before conditions code : List Insn) (last : Insn) → code ≡ (before ++ conditions) ++ last ∷ [] → code ≡ before ++ (conditions ++ last ∷ [])
one_arm before conditions code last is = is ∙ append_assoc before conditions (last ∷ [])

-- the pieces of the arms up to those that are left
pub record PutsSome (narrow : Bool) (old new : List Insn) (arms left : List Arm) : Type 0 where
  pub pieces : List Piece
  pub code : new ≡ old ++ flat_map (piece_code narrow) pieces
  pub has : flat_map arms_of pieces ++ left ≡ arms
  pub good : All (IsPiece narrow) pieces

pub none_put : (narrow : Bool) (code : List Insn) (arms : List Arm) → PutsSome narrow code code arms arms
none_put narrow code arms = record { pieces = []; code = sym (append-nil code); has = refl; good = All-nil (IsPiece narrow) }

pub one_piece_more : (narrow : Bool) (old code new : List Insn) (arms left rest : List Arm) (some : List Arm) → PutsSome narrow old code arms left → PutsPiece narrow code new some → left ≡ some ++ rest → PutsSome narrow old new arms rest
one_piece_more narrow old code new arms left rest some puts put e = record {
  pieces = puts.pieces ++ put.piece ∷ [];
  code = put.code ∙ ap (λ insns. insns ++ piece_code narrow put.piece) puts.code ∙ flat_map_more (piece_code narrow) old puts.pieces put.piece;
  has = ap (λ them. them ++ rest) (sym (flat_map_more arms_of [] puts.pieces put.piece)) ∙ append_assoc (flat_map arms_of puts.pieces) (arms_of put.piece) rest
      ∙ ap (λ them. flat_map arms_of puts.pieces ++ (them ++ rest)) put.has ∙ ap (λ them. flat_map arms_of puts.pieces ++ them) (sym e) ∙ puts.has;
  good = All-append (IsPiece narrow) puts.pieces (put.piece ∷ []) puts.good (All-cons (IsPiece narrow) put.piece [] put.good (All-nil (IsPiece narrow)));
}

pub all_put : (narrow : Bool) (old new : List Insn) (arms left : List Arm) → length left ≡ 0 → PutsSome narrow old new arms left → PutsPieces narrow old new arms
all_put narrow old new arms [] none puts = record { pieces = puts.pieces; code = puts.code; has = sym (append-nil (flat_map arms_of puts.pieces)) ∙ puts.has; good = puts.good }
all_put narrow old new arms (arm ∷ left) none puts = absurd (omega (arith, none))

pub first_arms : (left : List ArmOfCode) (arm : ArmOfCode) (rest : List ArmOfCode) (n : ℕ) → left ≡ arm ∷ rest → map arm_of left ≡ (arm_of arm ∷ map arm_of (take n rest)) ++ map arm_of (drop n rest)
first_arms left arm rest n e =
    ap (λ arms. map arm_of arms) e
    ∙ ap (λ arms. arm_of arm ∷ map arm_of arms) (sym (take-append-drop n rest))
    ∙ ap (λ arms. arm_of arm ∷ arms) (map-append arm_of (take n rest) (drop n rest))

-- ---- arms that share what they ask

pub one_more : {X : Type 0} (P : X → Type 0) (xs : List X) (n : ℕ) (x : X) → n < length xs → x ≡ get_or xs n x → All P (take n xs) → P x → All P (take (n + 1) xs)
one_more P xs n x inside is all here =
    subst (All P) (sym (take_more xs n x inside)) (All-append P (take n xs) (get_or xs n x ∷ []) all (All-cons P (get_or xs n x) [] (subst P is here) (All-nil P)))

pub index_inside : (arm : ArmOfCode) (index value number : ℕ) → arm_of arm ≡ asks index value number → IsArmOfCode arm → index < 6
index_inside arm index value number is good =
    let conditions = ap (λ (arm : Arm). arm.conditions) is in
    All-head (λ (c : Condition). c.index < 6) (record { index = index; test = Is; value = number }) [] (subst (All (λ (c : Condition). c.index < 6)) conditions good.0.0)

pub joined_arms : (index value upper first : ℕ) (others : List ArmOfCode) → All (Asks index value upper) others
    → map (asks index value) (first ∷ map asked_for others) ≡ asks index value first ∷ map arm_of others
joined_arms index value upper first others all = ap (λ arms. asks index value first ∷ arms) (by others all) where
  by : (others : List ArmOfCode) → All (Asks index value upper) others → map (asks index value) (map asked_for others) ≡ map arm_of others
  by [] all = refl
  by (arm ∷ others) all =
      ap (λ arm. arm ∷ map (asks index value) (map asked_for others)) (sym (All-head (Asks index value upper) arm others all).is)
      ∙ ap (λ arms. arm_of arm ∷ arms) (by others (All-tail (Asks index value upper) arm others all))

pub joined_halves : (index value upper : ℕ) (others : List ArmOfCode) → All (Asks index value upper) others → All (λ number. high number ≡ upper) (map asked_for others)
joined_halves index value upper others all =
    All-map (λ number. high number ≡ upper) asked_for others (All-weaker (Asks index value upper) (λ arm. high (asked_for arm) ≡ upper) (λ arm is. is.upper_half) others all)

pub joined_code : (narrow : Bool) (old new : List Insn) (choice : Choice) (n : ℕ) → length choice.others ≡ n
    → new ≡ (((old ++ half_code narrow choice.index choice.first n) ++ load (low_place choice.index) ∷ []) ++ lows_code (choice.first ∷ choice.others)) ++ answer choice.value ∷ []
    → new ≡ old ++ choice_code narrow choice
joined_code narrow old new choice n as_many is =
    let half = half_code narrow choice.index choice.first n in
    let first = load (low_place choice.index) in
    let lows = lows_code (choice.first ∷ choice.others) in
    let last = answer choice.value ∷ [] in
    is
    ∙ append_assoc ((old ++ half) ++ first ∷ []) lows last
    ∙ append_assoc (old ++ half) (first ∷ []) (lows ++ last)
    ∙ append_assoc old half (first ∷ (lows ++ last))
    ∙ ap (λ m. old ++ (half_code narrow choice.index choice.first m ++ (first ∷ (lows ++ last)))) (sym as_many)

-- ---- arms at the end that answer what is answered without them

abbrev Answers : ℕ → Arm → Type 0
Answers value arm = arm.value ≡ value

same_either_way : (b : Bool) (v w value : ℕ) → v ≡ value → w ≡ value → (if b then v else w) ≡ value
same_either_way true v w value e f = e
same_either_way false v w value e f = f

pub none_matters : (arms : List Arm) (otherwise : ℕ) (call : Record) → All (Answers otherwise) arms → first_held arms otherwise call ≡ otherwise
none_matters [] otherwise call all = refl
none_matters (arm ∷ arms) otherwise call all =
    same_either_way (all_hold arm.conditions call) arm.value (first_held arms otherwise call) otherwise (All-head (Answers otherwise) arm arms all)
    (none_matters arms otherwise call (All-tail (Answers otherwise) arm arms all))

without_them : (arms more : List Arm) (otherwise : ℕ) (call : Record) → All (Answers otherwise) more → first_held arms otherwise call ≡ first_held (arms ++ more) otherwise call
without_them [] more otherwise call all = sym (none_matters more otherwise call all)
without_them (arm ∷ arms) more otherwise call all = ap (λ value. if all_hold arm.conditions call then arm.value else value) (without_them arms more otherwise call all)

pub of_code : (value : ℕ) (arms : List ArmOfCode) → All (Answers value) (map arm_of arms) → All (λ (arm : ArmOfCode). arm.value ≡ value) arms
of_code value [] all = All-nil (λ (arm : ArmOfCode). arm.value ≡ value)
of_code value (arm ∷ arms) all =
    All-cons (λ (arm : ArmOfCode). arm.value ≡ value) arm arms (All-head (Answers value) (arm_of arm) (map arm_of arms) all) (of_code value arms (All-tail (Answers value) (arm_of arm) (map arm_of arms) all))

no_pieces : (pieces : List Piece) → flat_map arms_of pieces ≡ [] → pieces ≡ []
no_pieces [] e = refl
no_pieces (Single arm ∷ pieces) e = cc
no_pieces (Joined choice ∷ pieces) e = cc

pub saying_put : (old code new : List Insn) (saying : SayingOfCode) (n : ℕ) → All (λ (arm : ArmOfCode). arm.value ≡ saying.otherwise) (drop n saying.arms.items)
    → (All (λ (arm : ArmOfCode). arm.value ≡ saying.otherwise) saying.arms.items → n ≡ 0)
    → PutsPieces saying.narrow old code (map arm_of (take n saying.arms.items)) → new ≡ code ++ answer saying.otherwise ∷ [] → PutsSaying old new (saying_of saying)
saying_put old code new saying n rest none puts is =
    let arms = saying.arms.items in
    let more = map arm_of (drop n arms) in
    let whole : map arm_of (take n arms) ++ more ≡ map arm_of arms = sym (map-append arm_of (take n arms) (drop n arms)) ∙ ap (λ arms. map arm_of arms) (take-append-drop n arms) in
    let all = All-map (Answers saying.otherwise) arm_of (drop n arms) rest in record {
      pieces = puts.pieces;
      code = is ∙ ap (λ insns. insns ++ answer saying.otherwise ∷ []) puts.code ∙ append_assoc old (flat_map (piece_code saying.narrow) puts.pieces) (answer saying.otherwise ∷ []);
      shows = record {
        same = λ call.
            let it = seen saying.narrow call in
            ap (λ arms. first_held arms saying.otherwise it) puts.has ∙ without_them (map arm_of (take n arms)) more saying.otherwise it all
            ∙ ap (λ arms. first_held arms saying.otherwise it) whole;
        left = refl;
        first = n;
        shown = puts.has ∙ sym (take-map arm_of n arms);
        none = λ each. no_pieces puts.pieces (puts.has ∙ ap (λ n. map arm_of (take n arms)) (none (of_code saying.otherwise arms each)));
      };
      good = puts.good;
    }
