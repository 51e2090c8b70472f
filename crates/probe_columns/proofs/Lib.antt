mod WholeRange
