-- The check of the lookups' lines.
use Prim.Native.Nat.{ℕ, ◌+◌, ◌*◌, ◌≤◌, ◌<◌}
use mathlib.Core.List.{[], ◌∷◌}
use mathlib.Core.Bool.{Bool, true, false, ◌||◌}
use native.Mathlib.Omega.{arith}
use lib.Dec.{T}
use Rattle.std.specs.Prelude.{Option, Some, None}
use Rattle.text.specs.Text.{Text, ◌⊕◌, lit, flat}
use Rattle.text.specs.Format.{format, ◌≔◌}
use Rattle.combiners.specs.Arguments.{texel_name}
use Rattle.shader.specs.Lookups.{coordinate_text, bump_row, texel_line, projected_line, lookup_text, divided_line, offset_text, moved_text, displaced_line, displacement_text, luminance_line, sample_text}
use Rattle.shader.specs.declared.Coordinate.{Coordinate}
use Rattle.shader.specs.declared.Coordinate.TheVariants.{Interpolated, Divided, Displaced, Projected}
use Rattle.shader.specs.declared.Lookup.{Lookup}
use Rattle.shader.specs.declared.Lookup.TheVariants.{Fetch4, DepthFetch, DepthCompare, Plain}
use Rattle.shader.specs.declared.BumpStage.{BumpStage}
use Rattle.values.specs.Listed.{Name}
use Rattle.shader.proofs.Names.Truth.{cond_cases, inl, inr}
use Rattle.shader.proofs.Names.Check.{Aim, Known, declaring, add_self}
use Rattle.shader.proofs.Names.Frag.{has_more, Reads, ◌⨾◌, done, Frag, arg, loses, forgotten}
use Rattle.shader.proofs.Names.Words.{the, name_frag}
use Rattle.shader.proofs.Names.Templates.{format_frag, format_reads, line_reads}
use Rattle.shader.proofs.Names.Arguments.{texel, texel_word}
use Rattle.shader.proofs.Names.Order.{aim, coordinate_of, divided_word, displaced_word, projected_word}
use Rattle.shader.proofs.Names.Mentions.{Mentions, Inside, mentions_left, mentions_right, name_finds}
use Rattle.shader.proofs.Names.Coordinates.{lookup_mentions, compared_mentions, divided_mentions}
use Rattle.shader.proofs.Names.Samples.{Bound, bound_more, bump_frag, coordinate_frag, quotient_frag, gather_frag, fetch_frag, compare_frag, plain_frag}

-- what the stage before is to a lookup
abbrev pub Behind : Known → Option BumpStage → Type 0
Behind K None = Unit {0}
Behind K (Some b) = (b.stage < 8) × (T (b.textured || b.luminance) → T (K.has (the "bump_env"))) × (T b.textured → T (K.has (texel b.stage)))

-- the lines of a lookup
module _ (sprite : Bool) (rows total : ℕ) (named : Name → Bool) where
  abbrev A : Aim
  A = aim sprite rows total named

  module _ (i : ℕ) where
    abbrev sampled : Known → Known
    sampled K = declaring A (texel i) K

    texel_line_lem : {K : Known} {sample : Text} → i < 8 → T (named (texel i)) → K.next ≤ 43 + 4 * i → Frag A K sample
        → Reads A K [] (flat (texel_line i sample)) (sampled K) []
    unfolding texel_line
    texel_line_lem {sample = sample} l w p f = line_reads "    float4 {t} = {sample};\n" (texel_line i sample) tt (texel_word i l) (p, w) (f, tt)

    projected_line_lem : {K : Known} {tc : Text} → i < 8 → T (named (coordinate_of i Projected)) → K.next ≤ 42 + 4 * i → Frag A K tc
        → Reads A K [] (flat (projected_line i tc)) (declaring A (coordinate_of i Projected) K) []
    unfolding projected_line
    projected_line_lem {tc = tc} l w p f =
        line_reads "    float3 {proj} = {tc}.w != 0.0 ? {quotient} : float3(0.0);\n" (projected_line i tc) tt (projected_word i l) (p, w)
        (f, (quotient_frag true f, tt))

    divided_line_lem : {K : Known} → i < 8 → T (named (coordinate_of i Divided)) → K.next ≤ 40 + 4 * i → T (K.has (the "in"))
        → Reads A K [] (flat (divided_line i)) (declaring A (coordinate_of i Divided) K) []
    unfolding divided_line
    divided_line_lem l w p h =
        let f = coordinate_frag i l Interpolated h in
        line_reads "    float4 {pc} = {tc}.w != 0.0 ? float4({quotient}, 1.0) : float4(0.0, 0.0, 0.0, 1.0);\n" (divided_line i) tt
        (divided_word i l) (p, w) (f, (quotient_frag true f, tt))

    lookup_reads : (f : Lookup) (K : Known) (lod projected : Bool) (c : Coordinate) → K.next ≤ 42 + 4 * i → Bound K lod i
        → T (K.has (coordinate_of i c)) → T (named (texel i)) → Inside named (flat (lookup_text f lod projected i c))
        → Reads A K [] (flat (lookup_text f lod projected i c)) (sampled K) []
    unfolding lookup_text
    lookup_reads (Fetch4 alpha) K lod projected c p b h w v =
        texel_line_lem b.small w (omega arith) (gather_frag b (coordinate_frag i b.small c h) alpha projected)
    lookup_reads (DepthFetch red) K lod projected c p b h w v =
        texel_line_lem b.small w (omega arith) (fetch_frag b (coordinate_frag i b.small c h) red projected)
    lookup_reads DepthCompare K lod true c p b h w v =
        let P = coordinate_of i Projected in
        let b₁ = bound_more (has_more A P K) b in
        projected_line_lem b.small (v P (compared_mentions lod i c b.small)) p (coordinate_frag i b.small c h)
        ⨾ loses (forgotten A P (texel i) K tt)
        (texel_line_lem b.small w (omega arith) (compare_frag b₁ (coordinate_frag i b.small Projected (add_self P K.has))))
    lookup_reads DepthCompare K lod false c p b h w v =
        texel_line_lem b.small w (omega arith) (compare_frag b (coordinate_frag i b.small c h))
    lookup_reads (Plain three) K lod projected c p b h w v =
        texel_line_lem b.small w (omega arith) (plain_frag lod three projected b (coordinate_frag i b.small c h))

    -- a coordinate displaced by stage n
    module _ (n : ℕ) (m : n < 8) where
      moved_frag : {K : Known} {base : Text} → T (K.has (the "bump_env")) → T (K.has (texel n)) → Frag A K base
          → Frag A K (moved_text n base)
      unfolding moved_text offset_text
      moved_frag {K} h t f =
          let x : Frag A K (bump_row (2 * n)) = bump_frag h (2 * n) in
          let y : Frag A K (texel_name n) = name_frag (texel_word n m) t in
          format_frag "{base}.xy + float2({du}, {dv})" tt (
            f,
            (
              format_frag "{matrix}.x * {t}.x + {matrix}.z * {t}.y" tt (x, (y, (x, (y, tt)))),
              (format_frag "{matrix}.y * {t}.x + {matrix}.w * {t}.y" tt (x, (y, (x, (y, tt)))), tt),
            ),
          )

      displaced_line_lem : {K : Known} (c : Coordinate) → i < 8 → T (named (coordinate_of i Displaced)) → K.next ≤ 41 + 4 * i
          → T (K.has (the "bump_env")) → T (K.has (texel n)) → T (K.has (coordinate_of i c))
          → Reads A K [] (flat (displaced_line i n c)) (declaring A (coordinate_of i Displaced) K) []
      unfolding displaced_line
      displaced_line_lem c l w p h t k =
          let f = coordinate_frag i l c k in
          line_reads "    float4 {bc} = float4({moved}, {base}.zw);\n" (displaced_line i n c) tt (displaced_word i l) (p, w)
          (moved_frag h t f, (f, tt))

      displacement_reads : (K : Known) (projected : Bool) → i < 8 → T (named (coordinate_of i Displaced))
          → Inside named (flat (displacement_text projected i n)) → K.next ≤ 40 + 4 * i → T (K.has (the "in"))
          → T (K.has (the "bump_env")) → T (K.has (texel n))
          → Reads A K [] (flat (displacement_text projected i n)) (declaring A (coordinate_of i Displaced) K) []
      unfolding displacement_text
      displacement_reads K true l w v p k h t =
          divided_line_lem l (v (coordinate_of i Divided) (divided_mentions i n l)) p k
          ⨾ loses (forgotten A (coordinate_of i Divided) (coordinate_of i Displaced) K tt)
          (displaced_line_lem Divided l w (omega arith) h t (add_self (coordinate_of i Divided) K.has))
      displacement_reads K false l w v p k h t = displaced_line_lem Interpolated l w (omega arith) h t k

      luminance_reads : (K : Known) (tex : Bool) → i < 8 → T (K.has (texel i)) → T (K.has (the "bump_env"))
          → (T tex → T (K.has (texel n))) → Reads A K [] (flat (luminance_line tex i n)) K []
      unfolding luminance_line
      luminance_reads K tex l u h t =
          let x : Frag A K (bump_row (2 * n + 1)) = bump_frag h (2 * n + 1) in
          format_reads "    " (lit "    ") tt tt
          ⨾ arg {t = texel_name i} (name_frag (texel_word i l) u) tt
          (format_reads " *= saturate(" (lit " *= saturate(") tt tt
          ⨾ cond_cases tex _ [] (λ x. Reads A K [] x K [])
          (λ v. format_reads "{l}.z * {light}.x + "
          (format "{l}.z * {light}.x + " (("l" ≔ texel_name n) ∷ ("light" ≔ bump_row (2 * n + 1)) ∷ [])) tt
          (name_frag (texel_word n m) (t v), (x, tt)))
          (λ v. done)
          ⨾ format_reads "{light}.y);\n" (bump_row (2 * n + 1) ⊕ lit ".y);\n") tt (x, tt))

    pub sample_reads : (before : Option BumpStage) (f : Lookup) (K : Known) (lod projected : Bool) → K.next ≤ 40 + 4 * i → Bound K lod i
        → T (K.has (the "in")) → Behind K before → T (named (texel i)) → Inside named (flat (sample_text before f lod projected i))
        → Reads A K [] (flat (sample_text before f lod projected i)) (sampled K) []
    unfolding sample_text
    sample_reads None f K lod projected p b h q w v = lookup_reads f K lod projected Interpolated (omega arith) b h w v
    sample_reads (Some d) f K lod projected p b h q w v =
        let n = d.stage in
        let tex = d.textured in
        let lum = d.luminance in
        let moved : Mentions (coordinate_of i Displaced) (flat (lookup_text f lod false i Displaced)) =
        lookup_mentions f lod false i Displaced (name_finds {t = coordinate_text i Displaced} (displaced_word i b.small)) in
        cond_cases tex _ _ (λ x. Inside named x → Reads A K [] x (sampled K) [])
        (λ t u. displacement_reads n q.0 K projected b.small
        (u (coordinate_of i Displaced) (mentions_right (flat (displacement_text projected i n)) moved)) (λ m x. u m (mentions_left _ x)) p h
        (q.1 (inl tex lum t)) (q.2 t)
        ⨾ loses (forgotten A (coordinate_of i Displaced) (texel i) K tt)
        (lookup_reads f (declaring A (coordinate_of i Displaced) K) lod false Displaced (omega arith)
        (bound_more (has_more A (coordinate_of i Displaced) K) b) (add_self (coordinate_of i Displaced) K.has) w
        (λ m x. u m (mentions_right (flat (displacement_text projected i n)) x))))
        (λ t u. lookup_reads f K lod projected Interpolated (omega arith) b h w u)
        (λ m x. v m (mentions_left _ x))
        ⨾ cond_cases lum _ _ (λ x. Reads A (sampled K) [] x (sampled K) [])
        (λ t. luminance_reads n q.0 (sampled K) tex b.small (add_self (texel i) K.has) (q.1 (inr tex lum t))
        (λ x. has_more A (texel i) K (texel n) (q.2 x)))
        (λ t. done)
