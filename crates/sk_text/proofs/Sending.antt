-- Beginnings of a text joined to one another.
use Rattle.std.proofs.Common.{◌≡◌, ℕ, List, [], ◌++◌, Option, subst, refl, sym, ap, ◌∙◌, append-nil, append_assoc, drop, take, take-append-drop}
use Rattle.std.specs.Io.KnownBytes.{Appends, Keeps}
use Rattle.std.proofs.KnownBytes.{Appends-nil, Appends-trans, Appends-kept}
use Rattle.sk_text.specs.Writing.{AppendsBeginning}

-- nothing went out yet
pub AppendsBeginning-nothing : (now : Option (List ℕ)) (text : List ℕ) → AppendsBeginning now now text
AppendsBeginning-nothing now text =
    record { begun = []; left = text; parts = refl; appended = Appends-nil now }

-- all of it went out
pub AppendsBeginning-whole : (old new : Option (List ℕ)) (text : List ℕ) → Appends old new text → AppendsBeginning old new text
AppendsBeginning-whole old new text h =
    record { begun = text; left = []; parts = sym (append-nil text); appended = h }

-- the text goes on
pub AppendsBeginning-more : (old new : Option (List ℕ)) (text more : List ℕ) → AppendsBeginning old new text → AppendsBeginning old new (text ++ more)
AppendsBeginning-more old new text more h = record {
  begun = h.begun;
  left = h.left ++ more;
  parts = ap (λ l. l ++ more) h.parts ∙ append_assoc h.begun h.left more;
  appended = h.appended;
}

-- a beginning of one text behind the whole of another
pub AppendsBeginning-then : (old now new : Option (List ℕ)) (text more : List ℕ) → Appends old now text → AppendsBeginning now new more → AppendsBeginning old new (text ++ more)
AppendsBeginning-then old now new text more h g = record {
  begun = text ++ g.begun;
  left = g.left;
  parts = ap (λ l. text ++ l) g.parts ∙ sym (append_assoc text g.begun g.left);
  appended = Appends-trans old now new text g.begun h g.appended;
}

-- the writer stands still afterwards
pub AppendsBeginning-kept : (old now new : Option (List ℕ)) (text : List ℕ) → AppendsBeginning old now text → Keeps now new → AppendsBeginning old new text
AppendsBeginning-kept old now new text h kept =
    record { begun = h.begun; left = h.left; parts = h.parts; appended = Appends-kept old now new h.begun h.appended kept }

-- so much of the text is out, and this is left
pub record Sent (old new : Option (List ℕ)) (text left : List ℕ) : Type 0 where
  pub begun : List ℕ
  pub parts : text ≡ begun ++ left
  pub appended : Appends old new begun

pub Sent-nothing : (now : Option (List ℕ)) (text : List ℕ) → Sent now now text text
Sent-nothing now text = record { begun = []; parts = refl; appended = Appends-nil now }

-- one write more, which took the first `count` bytes of what was left
pub Sent-more : (old now new : Option (List ℕ)) (text left : List ℕ) (count : ℕ) → Sent old now text left → Appends now new (take count left) → Sent old new text (drop count left)
Sent-more old now new text left count h more = record {
  begun = h.begun ++ take count left;
  parts = h.parts ∙ ap (λ l. h.begun ++ l) (sym (take-append-drop count left)) ∙ sym (append_assoc h.begun (take count left) (drop count left));
  appended = Appends-trans old now new h.begun (take count left) h.appended more;
}

pub Sent-beginning : (old now new : Option (List ℕ)) (text left : List ℕ) → Sent old now text left → Keeps now new → AppendsBeginning old new text
Sent-beginning old now new text left h kept =
    record { begun = h.begun; left = left; parts = h.parts; appended = Appends-kept old now new h.begun h.appended kept }

pub Sent-whole : (old new : Option (List ℕ)) (text left : List ℕ) → Sent old new text left → left ≡ [] → Appends old new text
Sent-whole old new text left h none =
    let all : h.begun ≡ text = sym (h.parts ∙ ap (λ l. h.begun ++ l) none ∙ append-nil h.begun) in
    subst (Appends old new) all h.appended
