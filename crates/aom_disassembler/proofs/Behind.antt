-- What is written one after the other, each part behind a byte.
use Rattle.std.proofs.Common.{◌≡◌, ◌∙◌, ap, sym, ℕ, List, [], ◌∷◌, ◌++◌, append_assoc, arith, Result, Ok, Err}
use Rattle.std.specs.Prelude.{IsErr, OnOk}
use Rattle.std.proofs.lemmas.Grind.{common_steps, flat_map-append}
use Rattle.aom_disassembler.specs.Listing.{lines_text}
use Rattle.aom_disassembler.specs.Text.{behind, line_of, parted_by}

-- parts, and others behind them
more_behind : (byte : ℕ) (text : List ℕ) (xs ys : List (List ℕ)) → (text ++ behind byte xs) ++ behind byte ys ≡ text ++ behind byte (xs ++ ys)
more_behind byte text xs ys = append_assoc text (behind byte xs) (behind byte ys) ∙ ap (λ t. text ++ t) (sym (flat_map-append (λ p. byte ∷ p) xs ys))

-- a first part and four lists of parts
pub four_behind : {X E : Type 0} (byte : ℕ) (first : List ℕ) (ws xs ys zs : List (List ℕ)) (text t1 t2 t3 t4 new : List ℕ) (r : Result X E)
    → t1 ≡ text ++ first → t2 ≡ t1 ++ behind byte ws → t3 ≡ t2 ++ behind byte xs → t4 ≡ t3 ++ behind byte ys → OnOk r (new ≡ t4 ++ behind byte zs)
    → OnOk r (new ≡ text ++ parted_by byte (first ∷ (ws ++ (xs ++ (ys ++ zs)))))
four_behind byte first ws xs ys zs text t1 t2 t3 t4 new (Err e) i1 i2 i3 i4 i5 = tt
four_behind byte first ws xs ys zs text t1 t2 t3 t4 new (Ok x) i1 i2 i3 i4 i5 = i5 ∙ ap (λ t. t ++ behind byte zs) i4 ∙ more_behind byte t3 ys zs
    ∙ ap (λ t. t ++ behind byte (ys ++ zs)) i3 ∙ more_behind byte t2 xs (ys ++ zs) ∙ ap (λ t. t ++ behind byte (xs ++ (ys ++ zs))) i2 ∙ more_behind byte t1 ws
    (xs ++ (ys ++ zs)) ∙ ap (λ t. t ++ behind byte (ws ++ (xs ++ (ys ++ zs)))) i1 ∙ append_assoc text first (behind byte (ws ++ (xs ++ (ys ++ zs))))

-- a part, and others behind it
one_behind : (byte : ℕ) (s t w : List ℕ) (ws : List (List ℕ)) → t ≡ s ++ byte ∷ w → t ++ behind byte ws ≡ s ++ behind byte (w ∷ ws)
one_behind byte s t w ws e = ap (λ x. x ++ behind byte ws) e ∙ append_assoc s (byte ∷ w) (behind byte ws)

parts_behind : (byte : ℕ) (s t : List ℕ) (xs ys : List (List ℕ)) → t ≡ s ++ behind byte xs → t ++ behind byte ys ≡ s ++ behind byte (xs ++ ys)
parts_behind byte s t xs ys e = ap (λ x. x ++ behind byte ys) e ∙ more_behind byte s xs ys

-- two parts twice, three more and the rest
pub promise_behind : {X E : Type 0} (byte : ℕ) (a b c d e f g : List ℕ) (ws : List (List ℕ)) (text t1 t2 t3 t4 t5 new : List ℕ) (r : Result X E)
    → t1 ≡ text ++ behind byte (a ∷ b ∷ []) → t2 ≡ t1 ++ behind byte (c ∷ d ∷ []) → t3 ≡ t2 ++ byte ∷ e → t4 ≡ t3 ++ byte ∷ f → t5 ≡ t4 ++ byte ∷ g
    → OnOk r (new ≡ t5 ++ behind byte ws) → OnOk r (new ≡ text ++ behind byte (a ∷ b ∷ c ∷ d ∷ e ∷ f ∷ g ∷ ws))
promise_behind byte a b c d e f g ws text t1 t2 t3 t4 t5 new (Err x) i1 i2 i3 i4 i5 i6 = tt
promise_behind byte a b c d e f g ws text t1 t2 t3 t4 t5 new (Ok x) i1 i2 i3 i4 i5 i6 =
    i6 ∙ one_behind byte t4 t5 g ws i5 ∙ one_behind byte t3 t4 f (g ∷ ws) i4 ∙ one_behind byte t2 t3 e (f ∷ g ∷ ws) i3
    ∙ parts_behind byte t1 t2 (c ∷ d ∷ []) (e ∷ f ∷ g ∷ ws) i2 ∙ parts_behind byte text t1 (a ∷ b ∷ []) (c ∷ d ∷ e ∷ f ∷ g ∷ ws) i1

-- parts with that byte between them, four lists of parts behind them, and the end of the line
pub line_behind : {X E : Type 0} (byte : ℕ) (end first : List ℕ) (vs ws xs ys zs : List (List ℕ)) (text t1 t2 t3 t4 t5 new : List ℕ) (r : Result X E) →
    t1 ≡ text ++ parted_by byte (first ∷ vs) → t2 ≡ t1 ++ behind byte ws → t3 ≡ t2 ++ behind byte xs → t4 ≡ t3 ++ behind byte ys → t5 ≡ t4 ++ behind byte zs →
    OnOk r (new ≡ t5 ++ end) → OnOk r (new ≡ text ++ (parted_by byte (first ∷ (vs ++ (ws ++ (xs ++ (ys ++ zs))))) ++ end))
line_behind byte end first vs ws xs ys zs text t1 t2 t3 t4 t5 new (Err x) i1 i2 i3 i4 i5 i6 = tt
line_behind byte end first vs ws xs ys zs text t1 t2 t3 t4 t5 new (Ok x) i1 i2 i3 i4 i5 i6 =
    let parts = ws ++ (xs ++ (ys ++ zs)) in
    let rest = parts_behind byte t1 t2 ws (xs ++ (ys ++ zs)) i2 in
    let all = i5 ∙ parts_behind byte t3 t4 ys zs i4 ∙ parts_behind byte t2 t3 xs (ys ++ zs) i3 ∙ rest ∙ ap (λ t. t ++ behind byte parts) i1
    ∙ append_assoc text (first ++ behind byte vs) (behind byte parts) ∙ ap (λ t. text ++ t) (more_behind byte first vs parts) in
    i6 ∙ ap (λ t. t ++ end) all ∙ append_assoc text (first ++ behind byte (vs ++ parts)) end

-- a line, further lines, and one more
pub lines_behind : {X E : Type 0} (first last : List (List ℕ)) (lines : List (List (List ℕ))) (text t1 t2 new : List ℕ) (r : Result X E) → t1 ≡ text
    ++ line_of first → t2 ≡ t1 ++ lines_text lines → OnOk r (new ≡ t2 ++ line_of last) → OnOk r (new ≡ text ++ lines_text (first ∷ (lines ++ last ∷ [])))
lines_behind first last lines text t1 t2 new (Err x) i1 i2 i3 = tt
lines_behind first last lines text t1 t2 new (Ok x) i1 i2 i3 =
    let more : lines_text lines ++ line_of last ≡ lines_text (lines ++ last ∷ []) = grind (arith, common_steps) in
    i3 ∙ ap (λ t. t ++ line_of last) i2 ∙ append_assoc t1 (lines_text lines) (line_of last) ∙ ap (λ x. t1 ++ x) more
    ∙ ap (λ t. t ++ lines_text (lines ++ last ∷ [])) i1 ∙ append_assoc text (line_of first) (lines_text (lines ++ last ∷ []))

-- nothing is said where it failed
pub on_err : {X E : Type 0} (P : Type 0) (r : Result X E) → IsErr r → OnOk r P
on_err P (Err e) is = tt
on_err P (Ok x) is = absurd (cc)
