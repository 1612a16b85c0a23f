-- A sequence grows at its end: finished, joined with a sequence, joined with one element. Assumes nothing.
use Rattle.std.specs.Prelude.{Result, Err}
use Prim.Native.Nat.{ℕ, suc, ◌+◌, ◌-◌, ◌*◌, ◌≤◌, ◌<◌}
use mathlib.Core.Path.{◌≡◌, refl, sym, ap, ◌∙◌, subst}
use mathlib.Core.Bool.{Bool, true, false}
use mathlib.Core.List.{List, [], ◌∷◌, ◌++◌}
use native.Mathlib.Omega.{arith}
use lib.ListN.{length, get_or, take, drop, length-take}
use lib.Dec.{eqb}
use borrow.Author.Tests.{eq-eqb, eqb-true}
use Rattle.words.specs.Reader.{Words}
use Rattle.grammar.specs.Grammar.{Grammar}
use Rattle.grammar.specs.Limits.{most_types}
use Rattle.grammar.specs.Kinds.{children}
use Rattle.tables.specs.Types.{OfRows}
use Rattle.tables.specs.declared.types.Types.{Types}
use Rattle.tree.specs.Limits.{most_nodes}
use Rattle.tree.specs.Tree.{Trees, size, type_of}
use Rattle.tree.specs.Sequences.{element_of, sequence_of, elements, EachTree}
use Rattle.tree.proofs.Trees.{trees_even, tree_type}
use Rattle.tree.proofs.Sequences.{each_append, sequence_size, sequence_trees, elements_typed, elements_made}
use Rattle.meaning.specs.Limits.{most_live}
use Rattle.meaning.specs.Edits.{joined}
use Rattle.meaning.proofs.Edits.{joined_taken}
use Rattle.marks.specs.Marked.{type_in, marked, Stands, UnderWay}
use Rattle.marks.proofs.Same.{stands_root}
use Rattle.rewrite.specs.Arena.{NodesAt}
use Rattle.rewrite.proofs.Standing.{stretch_below, stands_whole}
use Rattle.sequences.specs.Listed.{Listed, Loosened, Made, Makes, Seals, Finishes, Below, JoinsSequence, Joins, Extracts}
use Rattle.sequences.proofs.Listing.{before_append, listed_nodes, listed_types}
use Rattle.sequences.proofs.Growing.{pushed_below, grown_last, grown_sequence}
use Rattle.sequences.proofs.Loosening.{loosened_all}
use Rattle.sequences.proofs.Sealing.{no_ok, limits_many, made_stopped}

-- over what stood before, too
pub made_from : {g : Grammar} {w w₁ w₂ : Words} {base under besides t : ℕ} {u : Words} {r : Result ℕ ℕ} → take base w₁ ≡ take base w → Made g w₁ w₂ base under besides t u r → Made g w w₂ base under besides t u r
made_from b m = record { below = m.below ∙ b; made = m.made }

-- 42 before anything is written: of all that is said where more nodes would be under way
pub stopped_many : (w : Words) (besides : ℕ) {Meant : Type 0} {k : ℕ} → Meant → Makes w w besides (Err k) Meant
stopped_many w besides m = record { long = refl; few = λ z. absurd (no_ok z); fits = λ z. absurd (no_ok z); meant = m }

pub made_many : {g : Grammar} {w w' : Words} {base under besides t k : ℕ} {u : Words} → k ≡ 42 → take base w' ≡ take base w → most_nodes < under + size u → Made g w w' base under besides t u (Err k)
made_many {g} {under = under} {besides} {u = u} e b h = made_stopped b (limits_many g under besides u h ∙ ap Err (sym e))

-- THE LAST NODE

pub finished : (types : Types) (w w₁ w₂ : Words) (t base k besides : ℕ) (r : Result ℕ ℕ) → length w₁ ≡ length w → base + 2 * k + 2 ≤ length w → w₁ ≡ take (base + 2 * k) w ++ (t ∷ 1 ∷ drop (base + 2 * k + 2) w)
    → Seals types w₁ w₂ base (k + 1) besides r → Finishes types w w₂ t base k besides r
finished types w w₁ w₂ t base k besides r long room e s = record {
  long = s.long ∙ long;
  few = s.few;
  fits = s.fits;
  meant = λ g under es tb is each ek fits way.
      let one : suc k ≡ k + 1 = omega arith in
      let y = drop (base + 2 * k + 2) w in
      let way' : UnderWay g (take (2 * (k + 1)) (drop base w₁)) (sequence_of t es) = subst (λ n. UnderWay g (take (2 * n) (drop base w₁)) (sequence_of t es)) one (grown_last w w₁ y base k t es (omega arith) way e) in
      let nodes : size (sequence_of t es) ≡ k + 1 = omega (arith, sequence_size g (element_of g t) t es each) in
      made_from (pushed_below w w₁ (t ∷ 1 ∷ []) y base (2 * k) (omega arith) e) (s.meant g t under (sequence_of t es) tb (sequence_trees g t is es each) nodes (omega arith) way');
}

-- TREES BELOW

-- the marked words of a tree that stands below, where nothing below has changed
pub below_words : {g : Grammar} {w : Words} {base start m : ℕ} {u : Words} (w₁ : Words) → Below g w base start m u → take base w₁ ≡ take base w → take (2 * m) (drop start w₁) ≡ marked g u
below_words {g} {w} {base} {start} {m} {u} w₁ b same =
    let long : length u ≡ 2 * m = omega (arith, trees_even b.stands.tree.typed, b.nodes) in
    let there : take (2 * m) (drop start (take base w)) ≡ marked g u = ap (λ k. take k (drop start (take base w))) (sym long) ∙ b.stands.words in
    let here : take (2 * m) (drop start (take base w₁)) ≡ marked g u = ap (λ l. take (2 * m) (drop start l)) same ∙ there in
    sym (stretch_below w₁ base start (2 * m) (omega (arith, b.stands.inside, length-take base w))) ∙ here

-- JOINED

module _ (types : Types) (w : Words) (base n start m under besides : ℕ) (some : 1 ≤ n) (room : base + 4096 ≤ length w) (held : besides ≤ most_live) where
  joined_nodes : {g : Grammar} {t : ℕ} (es fs : List Words) → Listed g w base n t es → EachTree g (element_of g t) fs → size (sequence_of t (es ++ fs)) ≡ n - 1 + size (sequence_of t fs)
  joined_nodes {g} {t} es fs x each =
      omega (arith, listed_nodes x, sequence_size g (element_of g t) t (es ++ fs) (each_append g (element_of g t) es fs x.each each), sequence_size g (element_of g t) t fs each, before_append es fs)

  pub joined_many : {k : ℕ} → (most_nodes < under + (n - 1 + m)) × (k ≡ 42) → JoinsSequence types w w base n start m under besides (Err k)
  joined_many h = stopped_many w besides (λ g t es fs tb x each b. made_many h.1 refl (omega (arith, h.0, joined_nodes es fs x each, b.nodes)))

  pub joined_sequence : under + (n - 1 + m) ≤ most_nodes → (w₁ w₂ w₃ : Words) (r : Result ℕ ℕ) → Loosened w w₁ base (n - 1)
      → length w₂ ≡ length w₁ → w₂ ≡ take (base + 2 * (n - 1)) w₁ ++ (take (2 * m) (drop start w₁) ++ drop (base + 2 * (n - 1) + 2 * m) w₁)
      → Seals types w₂ w₃ base (n - 1 + m) besides r → JoinsSequence types w w₃ base n start m under besides r
  joined_sequence h w₁ w₂ w₃ r l long e s = record {
    long = s.long ∙ long ∙ l.long;
    few = s.few;
    fits = s.fits;
    meant = λ g t es fs tb x each b.
        let y = drop (base + 2 * (n - 1) + 2 * m) w₁ in
        let z = take (2 * m) (drop start w₁) in
        let fits : base + 2 * (n - 1) ≤ length w₁ = omega (arith, l.long, x.few) in
        let ez : z ≡ marked g (sequence_of t fs) = below_words w₁ b l.below in
        let tree = sequence_trees g t x.is fs each in
        let way = grown_sequence w₁ w₂ y base (n - 1) t es fits (loosened_all l x) fs z tree ez e (n - 1 + m) (ap (λ k. n - 1 + k) b.nodes) in
        let nodes : size (sequence_of t (es ++ fs)) ≡ n - 1 + m = omega (arith, joined_nodes es fs x each, b.nodes) in
        let all = sequence_trees g t x.is (es ++ fs) (each_append g (element_of g t) es fs x.each each) in
        made_from (pushed_below w₁ w₂ z y base (2 * (n - 1)) fits e ∙ l.below) (s.meant g t under (sequence_of t (es ++ fs)) tb all nodes h way);
  }

-- A TREE BELOW of the sequence's own type

-- the type of a tree that stands below
pub stands_type : {g : Grammar} {start : ℕ} {u : Words} (w : Words) (base : ℕ) → length g ≤ most_types → Stands g (take base w) start u → type_in (get_or w start 0) ≡ type_of u
stands_type {g} {start} {u} w base few s =
    let x = stands_whole w base s in
    stands_root g w start u (get_or w start 0) few x refl ∙ sym (tree_type u x.tree.typed)

-- by the type that it tells
stands_typed : {g : Grammar} {arena : Words} {start : ℕ} (u : Words) → Stands g arena start u → Trees g (type_of u ∷ []) u
stands_typed {g} u s = subst (λ t. Trees g (t ∷ []) u) (sym (tree_type u s.tree.typed)) s.tree.typed

-- it is a sequence, by its elements
pub record Alike (g : Grammar) (w : Words) (base start m t : ℕ) (u : Words) : Type 0 where
  pub tree : Trees g (t ∷ []) u
  pub each : EachTree g (element_of g t) (elements g u)
  pub below : Below g w base start m (sequence_of t (elements g u))

pub alike : {g : Grammar} {w : Words} {base n start m t : ℕ} {es : List Words} (u : Words) → NodesAt w start base m → Listed g w base n t es → Stands g (take base w) start u → type_of u ≡ t → Alike g w base start m t u
alike {g} {w} {base} {n} {start} {m} {t} u at x s own =
    let tree : Trees g (t ∷ []) u = subst (λ k. Trees g (k ∷ []) u) own (stands_typed u s) in
    let made : sequence_of t (elements g u) ≡ u = elements_made g t x.is u tree in
    let below : Below g w base start m u = record { nodes = at.stands g u x.types s; stands = s } in
    record { tree = tree; each = elements_typed g t x.is u tree; below = rw made below }

-- what is joined to a sequence of itself is one
own_type : (g : Grammar) (t : ℕ) (u : Words) → element_of g t ≡ t → EachTree g (element_of g t) (joined g t u) → type_of u ≡ t
unfolding joined
own_type g t u same each = go (eqb (type_of u) t) refl
  where
    go : (b : Bool) → eqb (type_of u) t ≡ b → type_of u ≡ t
    go true q = eqb-true (type_of u) t q
    go false q = let one : EachTree g (element_of g t) (u ∷ []) = rw q at each in tree_type u one.0 ∙ same

-- EITHER: join appends what extract does, unless the sequence is of itself

module _ (types : Types) (w w' : Words) (base n start under besides : ℕ) (r : Result ℕ ℕ) (t e : ℕ) (et : t ≡ type_in (get_or w base 0)) (ee : OfRows types (λ g. e ≡ get_or (children g t 0) 0 0)) where
  pub joins_itself : e ≡ t → (m : ℕ) → NodesAt w start base m → JoinsSequence types w w' base n start m under besides r → Joins types w w' base n start under besides r
  unfolding joined
  joins_itself itself m at j = record {
    long = j.long;
    few = j.few;
    fits = j.fits;
    meant = λ g k es u tb x s each.
        let is = listed_types types t e et ee tb x in
        let own = own_type g k u (sym is.1 ∙ itself ∙ is.0) each in
        let y = alike u at x s own in
        rw (eq-eqb (type_of u) k own) (j.meant g k es (elements g u) tb x y.each y.below);
  }

  pub joins_else : (e ≡ t → ⊥) → Extracts types w w' base n start under besides r → Joins types w w' base n start under besides r
  joins_else other j = record {
    long = j.long;
    few = j.few;
    fits = j.fits;
    meant = λ g k es u tb x s each.
        let is = listed_types types t e et ee tb x in
        let same = joined_taken g k u x.is (λ q. other (is.1 ∙ sym q ∙ sym is.0)) (stands_typed u s) each in
        subst (λ us. Made g w w' base under besides k (sequence_of k (es ++ us)) r) (sym same) (j.meant g k es u tb x s);
  }
