-- The check of what the signature declares in part: `in` or a point sprite's two, names that may be left out, textures and samplers.
use Prim.Native.Nat.{ℕ, suc, ◌+◌, ◌*◌, ◌≤◌, ◌<◌}
use mathlib.Core.Path.{◌≡◌, refl, sym, subst}
use mathlib.Core.List.{List, [], ◌∷◌, ◌++◌, append_assoc}
use mathlib.Core.Bool.{Bool, true, false, not, ◌&&◌, ◌||◌, cond, and-true, and-false}
use native.Mathlib.Omega.{arith}
use lib.Dec.{T, lit≤}
use lib.ListN.{length}
use Rattle.text.specs.Text.{Text, ◌⊕◌, lit, bytes, flat, digit}
use Rattle.cascade.specs.Keys.{textured}
use Rattle.values.specs.declared.Stage.{Stage}
use Rattle.shader.specs.Lookups.{texture_type_of, type_text, texture_name, coordinate_text}
use Rattle.shader.specs.Whole.{stage_in_text, texture_parameter, sampler_parameter, samplers_text, sprite_line, sprite_text}
use Rattle.values.specs.declared.Variant.{Variant}
use Rattle.shader.specs.declared.TextureType.{TextureType}
use Rattle.shader.specs.declared.TextureType.TheVariants.{Depth, Volume, Cube, Flat}
use Rattle.shader.specs.declared.Coordinate.TheVariants.{Interpolated}
use Rattle.values.specs.Listed.{Name}
use Rattle.shader.specs.Names.{same_name}
use Rattle.shader.specs.Demand.{is_texel}
use Rattle.shader.proofs.Names.Truth.{false_of, inr, either}
use Rattle.shader.proofs.Names.Check.{Aim, Known, add, declaring, nothing, add_self, same→eq}
use Rattle.shader.proofs.Names.Frag.{Has, has_more, Reads, literal, ◌⨾◌, done, arg, loses}
use Rattle.shader.proofs.Names.Words.{the, number_frag, one_digit}
use Rattle.shader.proofs.Names.Templates.{format_reads, introduces, declared_read, line_reads}
use Rattle.shader.proofs.Names.Order.{aim, texture_of, sampler_of, texture_word, sampler_word}
use Rattle.shader.proofs.Names.Samples.{coordinate_frag}
use Rattle.shader.proofs.Names.Stages.{Textured}

-- a name that is declared only where b holds
abbrev pub optional : Aim → Bool → Name → Known → Known
optional A b n K = record { has = λ m. (same_name m n && b) || K.has m; next = suc (A.rank n); seen = K.seen }

pub optional_reads : {A : Aim} {K : Known} (b : Bool) (n : Name) (x : List ℕ) → T (not (is_texel n)) → K.next ≤ suc (A.rank n)
    → (T b → Reads A K [] x (declaring A n K) []) → Reads A K [] (cond b x []) (optional A b n K) []
optional_reads {A} {K} true n x t p h =
    loses (record { more = λ m s. rw and-true at s; lower = omega arith; same = rw (false_of (is_texel n) t) }) (h tt)
optional_reads {A} {K} false n x t p h = loses (record { more = λ m s. rw and-false at s; lower = p; same = refl }) done

pub optional_more : (A : Aim) (b : Bool) (n : Name) (K : Known) → Has K (optional A b n K)
optional_more A b n K m t = inr (same_name m n && b) _ t

-- what is known behind `in`, or a point sprite's two
abbrev pub entered : Bool → Known
entered true = record { has = add (the "point_coord") (add (the "in_stage") nothing.has); next = 2; seen = 0 }
entered false = record { has = add (the "in") nothing.has; next = 3; seen = 0 }

module _ (rows total : ℕ) (named : Name → Bool) where
  pub stage_in_reads : (sprite : Bool) → Reads (aim sprite rows total named) nothing [] (flat (stage_in_text sprite)) (entered sprite) []
  unfolding stage_in_text
  stage_in_reads true = literal (λ r k. ((lit≤ tt, tt), ((lit≤ tt, tt), (tt, k))))
  stage_in_reads false = literal (λ r k. ((lit≤ tt, tt), k))

  sprite_line_lem : (sprite : Bool) (K : Known) (i : ℕ) → i < 8 → T (K.has (the "in")) → T (K.has (the "point_coord"))
      → Reads (aim sprite rows total named) K [] (flat (sprite_line i)) K []
  unfolding sprite_line coordinate_text
  sprite_line_lem sprite K i l h p =
      format_reads "    " (lit "    ") tt tt
      ⨾ arg {t = coordinate_text i Interpolated} (coordinate_frag i l Interpolated h) tt
      (format_reads " = float4(point_coord.x, point_coord.y, 0.0, 0.0);\n" (lit " = float4(point_coord.x, point_coord.y, 0.0, 0.0);\n") tt
      (p, (p, tt)))

  -- behind a point sprite's lines, or none, `in` is known
  abbrev pub within : Known → Known
  within K = record { has = add (the "in") K.has; next = 31; seen = K.seen }

  pub within_more : (K : Known) → Has K (within K)
  within_more K m t = inr (same_name m (the "in")) _ t

  pub sprite_reads : (sprite : Bool) (K : Known) → K.next ≤ 30 → (T sprite → T (K.has (the "in_stage")))
      → (T sprite → T (K.has (the "point_coord"))) → (T (not sprite) → T (K.has (the "in")))
      → Reads (aim sprite rows total named) K [] (flat (sprite_text sprite)) (within K) []
  unfolding sprite_text
  sprite_reads true K p s c i =
      let line : (i : ℕ) → i < 8 → Reads (aim true rows total named) (within K) [] (flat (sprite_line i)) (within K) [] =
      λ i l. sprite_line_lem true (within K) i l tt (c tt) in
      literal {K' = within K} {b' = []} {x = bytes "    Varyings in = in_stage;\n"} (λ r k. ((p, tt), (s tt, k)))
      ⨾ line 0 (lit≤ tt) ⨾ line 1 (lit≤ tt) ⨾ line 2 (lit≤ tt) ⨾ line 3 (lit≤ tt)
      ⨾ line 4 (lit≤ tt) ⨾ line 5 (lit≤ tt) ⨾ line 6 (lit≤ tt) ⨾ line 7 (lit≤ tt)
  sprite_reads false K p s c i =
      loses (record {
        more =
            λ n. either (same_name n (the "in")) (K.has n) (λ t. subst (λ (m : Name). T (K.has m)) (sym (same→eq n (the "in") t)) (i tt))
            (λ t. t);
        lower = omega arith;
        same = refl;
      }) done

  module _ (sprite : Bool) where
    abbrev A : Aim
    A = aim sprite rows total named

    -- a texture and its sampler
    type_introduces : (t : TextureType) → T (introduces (bytes ",\n    " ++ (flat (type_text t) ++ bytes " ")))
    type_introduces Depth = tt
    type_introduces Volume = tt
    type_introduces Cube = tt
    type_introduces Flat = tt

    texture_reads : (v : Variant) (K : Known) (i : ℕ) → i < 8 → K.next ≤ 10 + 2 * i
        → Reads A K [] (flat (texture_parameter v i)) (declaring A (texture_of i) K) []
    unfolding texture_parameter
    texture_reads v K i l p =
        let t = texture_type_of v i in
        let slot : Text = lit " [[texture(" ⊕ digit i ⊕ lit ")]]" in
        let front : List ℕ = bytes ",\n    " ++ (flat (type_text t) ++ bytes " ") in
        let h : Reads A K [] (front ++ (flat (texture_name i) ++ flat slot)) (declaring A (texture_of i) K) [] =
        declared_read front (type_introduces t) (texture_word i l) (p, tt) tt
        (format_reads " [[texture({i})]]" slot tt (number_frag (one_digit i (omega arith)), tt)) in
        rw (append_assoc (flat (type_text t)) (bytes " ") (flat (texture_name i) ++ flat slot)) at h

    sampler_reads : (K : Known) (i : ℕ) → i < 8 → K.next ≤ 11 + 2 * i
        → Reads A K [] (flat (sampler_parameter i)) (declaring A (sampler_of i) K) []
    unfolding sampler_parameter
    sampler_reads K i l p =
        line_reads ",\n    sampler {samp} [[sampler({i})]]" (sampler_parameter i) tt (sampler_word i l) (p, tt)
        (number_frag (one_digit i (omega arith)), tt)

    -- x is read, and leaves one who knows what X says
    pub record Passed (K : Known) (x : List ℕ) (bound : ℕ) (X : Known → Type 0) : Type 0 where
      pub known : Known
      pub more : Has K known
      pub lower : known.next ≤ bound
      pub same : known.seen ≡ K.seen
      pub gives : X known
      pub reads : Reads A K [] x known []

    pub samplers_pass : (v : Variant) (ss : List Stage) (i : ℕ) (K : Known) → i + length ss ≤ 8 → K.next ≤ 10 + 2 * i
        → Passed K (flat (samplers_text v i ss)) 26 (λ K'. Textured K' i ss)
    unfolding samplers_text
    samplers_pass v [] i K l p = record { known = K; more = λ n t. t; lower = omega arith; same = refl; gives = tt; reads = done }
    samplers_pass v (s ∷ r) i K l p = go (textured s) (samplers_pass v r (suc i))
      where
        P : List ℕ
        P = flat (texture_parameter v i) ++ flat (sampler_parameter i)

        R : List ℕ
        R = flat (samplers_text v (suc i) r)

        go : (b : Bool) → ((K₁ : Known) → suc i + length r ≤ 8 → K₁.next ≤ 10 + 2 * suc i → Passed K₁ R 26 (λ K'. Textured K' (suc i) r))
            → Passed K (cond b P [] ++ R) 26 (λ K'. (T b → T (K'.has (texture_of i)) × T (K'.has (sampler_of i))) × Textured K' (suc i) r)
        go true ih =
            let K₁ : Known = declaring A (texture_of i) K in
            let K₂ : Known = declaring A (sampler_of i) K₁ in
            let g = ih K₂ (omega arith) (omega arith) in
            record {
              known = g.known;
              more = λ n t. g.more n (has_more A (sampler_of i) K₁ n (has_more A (texture_of i) K n t));
              lower = g.lower;
              same = g.same;
              gives = (
                (λ t. (
                  g.more (texture_of i) (has_more A (sampler_of i) K₁ (texture_of i) (add_self (texture_of i) K.has)),
                  g.more
                      (sampler_of i) (add_self (sampler_of i) K₁.has),
                )),
                g.gives,
              );
              reads = (texture_reads v K i (omega arith) p ⨾ sampler_reads K₁ i (omega arith) (omega arith)) ⨾ g.reads;
            }
        go false ih =
            let g = ih K (omega arith) (omega arith) in
            record {
              known =
                  g.known;
              more = g.more;
              lower = g.lower;
              same = g.same;
              gives = ((λ t. absurd t), g.gives);
              reads = g.reads;
            }
