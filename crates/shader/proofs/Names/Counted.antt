-- The part of a text that counts is everything behind the entry.
use Prim.Native.Nat.{ℕ}
use mathlib.Core.Path.{◌≡◌, refl, ◌∙◌, subst}
use mathlib.Core.List.{List, [], ◌∷◌, ◌++◌, append_assoc}
use mathlib.Core.Bool.{Bool, true, false}
use lib.Dec.{T, eqb, leb, eqb→eq}
use Rattle.text.specs.Text.{flat}
use Rattle.cascade.specs.Keys.{active}
use Rattle.values.specs.declared.Key.{Key}
use Rattle.shader.specs.Output.{flat_shade, srgb_write, sample_mask, point_sprite}
use Rattle.values.specs.Entries.{name_of}
use Rattle.shader.specs.Whole.{varyings_text, srgb_helper_text, fragment_text, front_text, stage_in_text, parameters_text, body_text, whole_text}
use Rattle.values.specs.Entries.{starts_name, continues_name, all, is_identifier, entry_good}
use Rattle.values.specs.declared.Variant.{Variant}
use Rattle.values.specs.declared.Entry.{Entry}
use Rattle.shader.specs.Names.{from_opening, from_fragment, counted}
use Rattle.shader.proofs.Names.Truth.{and_fst, and_snd, both, inl, cond_cases}
use Rattle.shader.proofs.Names.Scan.{letters}

-- no line before the entry's begins with `fragment`
varyings_passed : (b : Bool) (r : List ℕ) → from_fragment true (flat (varyings_text b) ++ r) ≡ from_fragment true r
unfolding varyings_text
varyings_passed true r = refl
varyings_passed false r = refl

helper_passed : (b : Bool) (r : List ℕ) → from_fragment true (flat (srgb_helper_text b) ++ r) ≡ from_fragment true r
unfolding srgb_helper_text
helper_passed true r = refl
helper_passed false r = refl

fragment_found : (b : Bool) (r : List ℕ) → from_fragment true (flat (fragment_text b) ++ r) ≡ from_opening r
unfolding fragment_text
fragment_found true r = refl
fragment_found false r = refl

front_passed : (v : Variant) (r : List ℕ) → counted (flat (front_text v) ++ r) ≡ from_opening r
unfolding front_text
front_passed v r =
    rw (
      append_assoc (flat (varyings_text (flat_shade v))) _ r,
      append_assoc (flat (srgb_helper_text (srgb_write v)))
          (flat (fragment_text (sample_mask v))) r,
    )
    (varyings_passed (flat_shade v) _ ∙ helper_passed (srgb_write v) _ ∙ fragment_found (sample_mask v) r)

-- nor is a bracket part of the entry
entry_passed : (e r : List ℕ) → T (letters e) → from_opening (e ++ r) ≡ from_opening r
entry_passed [] r t = refl
entry_passed (c ∷ e) r t =
    let rest = entry_passed e r (and_snd (continues_name c) (letters e) t) in
    cond_cases (eqb c 40) _ _ (λ (x : List ℕ). x ≡ from_opening r)
    (λ h. absurd (subst (λ (x : ℕ). T (continues_name x)) (eqb→eq c 40 h) (and_fst (continues_name c) (letters e) t))) (λ h. rest)

all_letters : (w : List ℕ) → T (all continues_name w) → T (letters w)
unfolding all
all_letters [] t = tt
all_letters (c ∷ w) t = both (continues_name c) _ (and_fst (continues_name c) _ t) (all_letters w (and_snd (continues_name c) _ t))

name_letters : (w : List ℕ) → T (is_identifier w) → T (letters w)
name_letters [] t = absurd t
name_letters (c ∷ w) t =
    both (continues_name c) _ (inl (starts_name c) _ (and_fst (starts_name c) _ t)) (all_letters w (and_snd (starts_name c) _ t))

good_letters : (e : Entry) → T (entry_good e) → T (letters (name_of e))
unfolding entry_good
good_letters e t = name_letters (name_of e) (and_fst (is_identifier (name_of e)) _ (and_snd (leb e.len 32) _ t))

opening : (sprite : Bool) (x y : List ℕ) → from_opening ((flat (stage_in_text sprite) ++ x) ++ y) ≡ (flat (stage_in_text sprite) ++ x) ++ y
unfolding stage_in_text
opening true x y = refl
opening false x y = refl

pub counted_body : (k : Key) (v : Variant) (e : Entry) → T (entry_good e) → counted (flat (whole_text k v e)) ≡ flat (body_text k v (active k.stages))
unfolding whole_text body_text parameters_text
counted_body k v e t =
    front_passed v (name_of e ++ flat (body_text k v (active k.stages)))
    ∙ entry_passed (name_of e) (flat (body_text k v (active k.stages))) (good_letters e t)
    ∙ opening (point_sprite v) _ _
