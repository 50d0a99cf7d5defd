mod StockLemmas
